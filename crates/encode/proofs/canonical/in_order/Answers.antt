use mathlib.Core.Path.{◌≡◌, sym, ◌∙◌}
use lib.ListN.{length, drop_of_length-le}
use Prim.Native.Nat.{◌≤◌}
use native.Mathlib.Nat.{sub-zero}
use native.Mathlib.Omega.{arith}
use Rattle.encode.proofs.CanonicalLaws.{code_right, code_wrong, told_same, told_other}
use Rattle.encode.specs.Canonical.{in_order}
use borrow.Author.Rules.{rules}
use Rattle.encode.proofs.canonical.in_order.Goals as goal

pub loop-j-init : goal.loop-j-init
loop-j-init c = (omega arith, rw (sub-zero c.args.count))

pub returns-then-row-j : goal.returns-then-row-j
returns-then-row-j c =
    let l = c.loop-j in
    let a = c.args in
    let h : length a.row ≡ 8 = search rules in
    sym (l.invariant.1 ∙ code_wrong a.row a.count l.j (omega arith) (told_same _ _ c.if-row-j.true))

pub loop-j-preserved : goal.loop-j-preserved
loop-j-preserved c =
    let l = c.loop-j in
    let a = c.args in
    let h : length a.row ≡ 8 = search rules in
    (omega arith, l.invariant.1 ∙ code_right a.row a.count l.j (omega arith) (told_other _ _ c.if-row-j.false))

pub returns : goal.returns
unfolding in_order
returns c =
    let l = c.loop-j in
    let a = c.args in
    let h : length a.row ≡ 8 = search rules in
    let g : length a.row ≤ l.j = omega arith in
    sym (l.invariant.1 ∙ rw (drop_of_length-le a.row g))
