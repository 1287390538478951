use mathlib.Core.Path.{ap, sym, ◌∙◌}
use Rattle.std.specs.Prelude.{Ok}
use Rattle.carry.proofs.MarkLaws.{no_address, some_address}
use Rattle.carry.proofs.new_bits.address_into.Goals as goal

pub returns-in_default : goal.returns-in_default
returns-in_default c = no_address _ _ _ (sym c.target.ensures ∙ c.in_default.is)

pub returns : goal.returns
returns c = ap Ok c.distance_into.ensures ∙ some_address _ _ _ _ (sym c.target.ensures ∙ c.in-Some.is)
