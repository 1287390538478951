use mathlib.Core.Path.{◌≡◌}
use lib.ListN.{length}
use borrow.Author.Rules.{rules}
use Rattle.carry.proofs.Filling.{none_made, one_more}
use Rattle.carry.proofs.PlanLaws.{all_made}
use Rattle.carry.proofs.plans.plan_row.Goals as goal

pub loop-j-init : goal.loop-j-init
loop-j-init c = none_made _ _ _ _ (search rules)

pub loop-j-preserved : goal.loop-j-preserved
loop-j-preserved c = one_more _ _ _ _ _ _ c.loop-j.invariant c.loop-j-test.true c.plan_of.ensures

pub returns : goal.returns
returns c =
    let a = c.args in
    let h : length a.row ≡ 8 = search rules in
    let h' : length a.new ≡ 8 = search rules in
    all_made _ _ _ _ c.loop-j.invariant c.loop-j-test.false h h'
