use mathlib.Core.Path.{sym}
use Rattle.sheet.proofs.AnswerLaws.{is_error}
use Rattle.operation.proofs.UnderLaws.{table_refused, table_ready}
use Rattle.operation.proofs.inputs.read_inputs.Goals as goal

pub returns-in_err-check_table : goal.returns-in_err-check_table
returns-in_err-check_table c = rw (is_error _ c.from_residual.ensures.1) (table_refused _ (sym c.in_err-check_table.ensures))

pub returns : goal.returns
returns c = table_ready (sym c.in_ok-check_table.ensures) c.read_tables.ensures
