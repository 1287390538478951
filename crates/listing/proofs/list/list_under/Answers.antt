use Rattle.std.proofs.lemmas.Result.{err_from_is_err_and}
use Rattle.std.specs.Prelude.{Err}
use mathlib.Core.Path.{ap, sym, ◌∙◌}
use Rattle.spec_listing.specs.Operation.{list_outcome}
use Rattle.listing.proofs.WrittenLaws.{was_cleared}
use Rattle.listing.proofs.EndLaws.{settled, written_end, cleared_end}
use Rattle.listing.proofs.list.list_under.Goals as goal

pub returns-in_err-part : goal.returns-in_err-part
unfolding list_outcome
returns-in_err-part c =
    let p = err_from_is_err_and c.from_residual.result c.from_residual.ensures.1 in
    let s = was_cleared c.list_body.ensures.written c.list_body.ensures.cleared c.in_err-part.was in
    cleared_end _ _ _ (ap list_outcome s.is_refused) (p.1 ∙ ap Err p.2) s.cleared

pub returns : goal.returns
returns c =
    let m = c.measure.ensures in
    rw (settled c.measure.result c.list_body.new.out c.measure.new.out m.out_after ∙ sym m.out_after) at (written_end _ _ _ c.in_ok-part.part c.args.lent _ m.value m.out_after (rw c.in_ok-part.was at c.list_body.ensures.written))
