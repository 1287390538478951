use Rattle.lists.proofs.Scans.{same_end, same_go, same_stop, same_lengths}
use native.Mathlib.Omega.{arith}
use mathlib.Core.Path.{sym, ◌∙◌}
use Rattle.slices.proofs.compare.same_bytes.Goals as goal

pub returns-then-s-t : goal.returns-then-s-t
returns-then-s-t c = sym (same_lengths _ _ c.if-s-t.true)

pub returns-then-s-i : goal.returns-then-s-i
returns-then-s-i c =
    let l = c.loop-i in
    sym (l.invariant.1 ∙ same_stop _ _ l.i (omega arith) (omega arith) c.if-s-i.true)

pub loop-i-preserved : goal.loop-i-preserved
loop-i-preserved c =
    let l = c.loop-i in
    (omega arith, l.invariant.1 ∙ same_go _ _ l.i (omega arith) (omega arith) c.if-s-i.false)

pub returns : goal.returns
returns c =
    let l = c.loop-i in
    sym (l.invariant.1 ∙ same_end _ _ l.i (omega arith) (omega arith))
