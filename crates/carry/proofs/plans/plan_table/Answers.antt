use native.Mathlib.Omega.{arith}
use borrow.Author.Rules.{rules}
use Rattle.carry.proofs.Filling.{none_made, one_more}
use Rattle.carry.proofs.plans.plan_table.Goals as goal

pub loop-op-init : goal.loop-op-init
loop-op-init c = none_made _ _ _ _ (search rules)

pub loop-op-preserved : goal.loop-op-preserved
loop-op-preserved c = one_more _ _ _ _ _ _ c.loop-op.invariant (omega arith) c.plan_row.ensures

pub returns : goal.returns
returns c = λ o h k. c.loop-op.invariant.made o (omega arith)
