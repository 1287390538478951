use mathlib.Core.List.{[]}
use lib.ListN.{get_or}
use Rattle.decode.specs.Tables.{PlanOf}
use Rattle.sheet.proofs.Filled.{Filled}
use Rattle.decode.proofs.tables.plan_rows.Given as goal

abbrev pub invariant-loop-op : goal.invariant-loop-op
invariant-loop-op l = Filled (λ o. PlanOf (get_or l.types o [])) l.initial.rows l.rows l.op
