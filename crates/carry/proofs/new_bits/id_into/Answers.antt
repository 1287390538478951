use mathlib.Core.Path.{sym, ◌∙◌}
use Rattle.carry.proofs.MarkLaws.{id_text, id_new}
use Rattle.carry.proofs.new_bits.id_into.Goals as goal

pub returns-in_default : goal.returns-in_default
returns-in_default c = rw (← c.in_default.ensures.lookup.0)

pub returns-in_default-marked : goal.returns-in_default-marked
returns-in_default-marked c =
    let h = c.in-Some.ensures.lookup in
    id_text _ _ _ (sym h.0) (rw (h.3.1 0) at (sym c.marked.ensures ∙ c.in_default-marked.is))

pub returns : goal.returns
returns c =
    let h = c.in-Some.ensures.lookup in
    c.number_into.ensures ∙ id_new _ _ _ (sym h.0) _ (rw (h.3.1 0) at (sym c.marked.ensures ∙ c.in-Some-marked.is))
