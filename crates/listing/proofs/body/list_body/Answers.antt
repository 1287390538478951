use mathlib.Core.Path.{sym, ◌∙◌}
use Rattle.listing.proofs.WrittenLaws.{any_output}
use Rattle.listing.proofs.body.list_body.Goals as goal

pub returns-then-is_err-clause-written : goal.returns-then-is_err-clause-written
returns-then-is_err-clause-written c = any_output c.list_flags-part.ensures (sym c.is_err.ensures.value ∙ c.if-is_err.true) _
