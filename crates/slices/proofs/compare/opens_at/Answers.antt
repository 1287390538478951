use native.Mathlib.Nat.{add-zero, add_assoc}
use Rattle.lists.proofs.Scans.{opens_end, opens_go, opens_stop, opens_short, opens_past}
use lib.ListN.{length-drop}
use native.Mathlib.Omega.{arith}
use Prim.Native.Nat.{◌+◌}
use mathlib.Core.Path.{sym, ◌∙◌}
use Rattle.slices.proofs.compare.opens_at.Goals as goal

pub returns-then-s-at : goal.returns-then-s-at
returns-then-s-at c = c.is_empty.ensures ∙ sym (opens_past c.args.p.now c.args.s.now c.args.at c.if-s-at.true)

pub returns-then-s-at-2 : goal.returns-then-s-at-2
returns-then-s-at-2 c = sym (opens_short _ _ (rw length-drop (omega arith)))

pub loop-i-init : goal.loop-i-init
loop-i-init c = (omega arith, omega arith, rw add-zero)

pub returns-then-s-at-3 : goal.returns-then-s-at-3
returns-then-s-at-3 c =
    let l = c.loop-i in
    let a = c.args in
    sym (l.invariant.2 ∙ opens_stop _ _ l.i (a.at + l.i) (omega arith) (omega arith) c.if-s-at-3.true)

pub loop-i-preserved : goal.loop-i-preserved
loop-i-preserved c =
    let l = c.loop-i in
    let a = c.args in
    let e = opens_go a.p.now a.s.now l.i (a.at + l.i) (omega arith) (omega arith) c.if-s-at-3.false in
    (omega arith, l.invariant.1, l.invariant.2 ∙ (rw (add_assoc a.at l.i 1) at e))

pub returns : goal.returns
returns c =
    let l = c.loop-i in
    sym (l.invariant.2 ∙ opens_end _ _ l.i (omega arith))
