use mathlib.Core.Path.{sym, ◌∙◌}
use lib.ListN.{get_or-eq_default}
use borrow.Author.Tests.{ltb-false}
use Rattle.carry.proofs.MarkLaws.{none_marked}
use Rattle.carry.proofs.new_bits.place_at.Goals as goal

pub returns-in_err-mark : goal.returns-in_err-mark
returns-in_err-mark c =
    c.from_residual.ensures ∙ none_marked _ (get_or-eq_default c.args.map.now 0 (ltb-false c.args.place _ (sym c.in_err-mark.ensures.lookup.0)))
