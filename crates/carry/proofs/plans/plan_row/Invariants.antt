use Rattle.std.specs.Prelude.{None}
use Rattle.carry.proofs.Filling.{Filled}
use Rattle.carry.proofs.PlanLaws.{PlanMade}
use Rattle.carry.proofs.plans.plan_row.Given as goal

abbrev pub invariant-loop-j : goal.invariant-loop-j
invariant-loop-j l = Filled None (PlanMade l.row l.new) 8 l.plans l.j
