use mathlib.Core.Path.{refl, sym, ◌∙◌}
use Rattle.job.proofs.AnswerLaws.{listing_sound, told_length, refusal_length}
use Rattle.job.proofs.ListLaws.{list_refused, list_ready}
use Rattle.job.proofs.list_job.list_inputs.Goals as goal

pub returns-in-Err : goal.returns-in-Err
returns-in-Err c =
    record { ended = (λ os t o a. list_refused _ _ _ _ os _ _ _ _ _ (sym c.check_table.ensures ∙ c.in-Err.is) refl c.clear.ensures); result_in_bounds = refusal_length _ c.args.out.now }

pub returns : goal.returns
returns c =
    let e = c.list_under.ensures in
    record { ended = (λ os t o a. list_ready _ _ _ _ os _ _ _ _ _ _ _ (sym c.check_table.ensures ∙ c.in_default.is) t o a e); result_in_bounds = told_length _ _ _ _ _ (listing_sound _) e }
