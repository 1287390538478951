use Rattle.decode.proofs.PlanLoop.{Planning}
use Rattle.decode.proofs.tables.plan_row.Given as goal

abbrev pub invariant-loop-i : goal.invariant-loop-i
invariant-loop-i l = Planning l.fn.row l.initial.plan l.plan l.start l.count l.i
