use mathlib.Core.Path.{refl}
use Rattle.list_labels.proofs.PartLoop.{start, turn_low, turn_high, all_low, all_high}
use borrow.Author.Rules.{rules}
use Rattle.list_labels.proofs.distinct.part.Goals as goal
use Rattle.list_labels.proofs.distinct.part.Goals.{then-x-bound, else-x-bound}

pub loop-i-init : goal.loop-i-init
loop-i-init c = start _ _ _

pub loop-i-preserved : goal.loop-i-preserved
loop-i-preserved c =
    let l = c.loop-i in
    let t = c.loop-i-test.true in
    elim c.if-x-bound.branch [
      | then-x-bound w ↦ turn_low _ _ _ _ _ _ _ l.invariant t _ refl w.if-x-bound.true w.a-is w.spare-is w.n-is
      | else-x-bound w ↦ turn_high _ _ _ _ _ _ _ l.invariant t _ refl w.if-x-bound.false c.requires w.a-is w.spare-is w.n-is
    ]

pub returns : goal.returns
returns c = (search rules, all_low _ _ _ _ _ _ _ c.loop-i.invariant c.loop-i-test.false, all_high _ _ _ _ _ _ _ c.loop-i.invariant c.loop-i-test.false)
