use Rattle.encode.proofs.ShapeLaws.{pair_good, pair_bad}
use Rattle.spec_body.specs.Encode.{good_pairs}
use Prim.Native.Nat.{◌-◌}
use native.Mathlib.Omega.{arith}
use mathlib.Core.Path.{◌≡◌, refl, sym, ◌∙◌}
use borrow.Author.Rules.{rules}
use Rattle.encode.proofs.record_shape.good_pairs.Goals as goal

pub loop-i-init : goal.loop-i-init
loop-i-init c = (search rules, refl)

pub loop-i-preserved : goal.loop-i-preserved
loop-i-preserved c =
    let l = c.loop-i in
    let a = c.args in
    (omega arith, l.invariant.1 ∙ rw c.saturating_sub-left.ensures (pair_good a.words.now a.at l.i _ l.left refl c.loop-i-test.true (sym c.good_slot.ensures ∙ c.if-not-good_slot.false)))

pub returns-then-not-good_slot : goal.returns-then-not-good_slot
returns-then-not-good_slot c =
    let l = c.loop-i in
    let a = c.args in
    sym (l.invariant.1 ∙ pair_bad a.words.now a.at l.i _ l.left refl c.loop-i-test.true (sym c.good_slot.ensures ∙ c.if-not-good_slot.true))

pub returns : goal.returns
unfolding good_pairs
returns c =
    let l = c.loop-i in
    let e : 8 - l.i ≡ 0 = omega arith in
    sym (l.invariant.1 ∙ rw e)
