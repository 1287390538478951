use mathlib.Core.Path.{sym, ◌∙◌}
use Rattle.operation.specs.Tables.{unless_faulty, table_check}
use Rattle.slices.proofs.SearchLaws.{was_at, was_missing}
use Rattle.operation.proofs.inputs.check_table.Goals as goal

pub returns-then-too_large : goal.returns-then-too_large
unfolding table_check
returns-then-too_large c = rw (sym c.too_large.ensures ∙ c.if-too_large.true)

pub returns-in-Some : goal.returns-in-Some
unfolding table_check unless_faulty
returns-in-Some c = rw (sym c.too_large.ensures ∙ c.if-too_large.false, was_at _ (sym c.in-Some.ensures))

pub returns-in-None : goal.returns-in-None
unfolding table_check unless_faulty
returns-in-None c = rw (sym c.too_large.ensures ∙ c.if-too_large.false, was_missing _ (sym c.in-None.ensures))
