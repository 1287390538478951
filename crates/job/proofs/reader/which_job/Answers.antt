use Rattle.lists.specs.Text.{text}
use Rattle.job.proofs.AskedLaws.{asks_list, asks_assemble, asks_carry, asks_other}
use mathlib.Core.Path.{sym, ◌∙◌}
use Rattle.job.proofs.reader.which_job.Goals as goal

pub returns-then-opens_at : goal.returns-then-opens_at
unfolding text
returns-then-opens_at c = asks_list _ (sym c.opens_at.ensures ∙ c.if-opens_at.true)

pub returns-then-opens_at-2 : goal.returns-then-opens_at-2
unfolding text
returns-then-opens_at-2 c = asks_assemble _ (sym c.opens_at.ensures ∙ c.if-opens_at.false) (sym c.opens_at-2.ensures ∙ c.if-opens_at-2.true)

pub returns-then-opens_at-3 : goal.returns-then-opens_at-3
unfolding text
returns-then-opens_at-3 c = asks_carry _ (sym c.opens_at.ensures ∙ c.if-opens_at.false) (sym c.opens_at-2.ensures ∙ c.if-opens_at-2.false) (sym c.opens_at-3.ensures ∙ c.if-opens_at-3.true)

pub returns : goal.returns
unfolding text
returns c = asks_other _ (sym c.opens_at.ensures ∙ c.if-opens_at.false) (sym c.opens_at-2.ensures ∙ c.if-opens_at-2.false) (sym c.opens_at-3.ensures ∙ c.if-opens_at-3.false)
