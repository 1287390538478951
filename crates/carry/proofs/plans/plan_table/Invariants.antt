use mathlib.Core.List.{[]}
use Rattle.carry.proofs.Filling.{Filled}
use Rattle.carry.proofs.PlanLaws.{OpcodePlanned}
use Rattle.carry.proofs.plans.plan_table.Given as goal

abbrev pub invariant-loop-op : goal.invariant-loop-op
invariant-loop-op l = Filled [] (OpcodePlanned l.types l.types2 l.rows) 256 l.plans l.op
