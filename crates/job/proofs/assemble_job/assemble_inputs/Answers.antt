use mathlib.Core.Path.{refl, sym, ◌∙◌}
use native.Mathlib.Omega.{arith}
use Rattle.job.proofs.AnswerLaws.{body_sound, told_length, refusal_length}
use Rattle.job.proofs.AssembleLaws.{assemble_refused, assemble_ready}
use borrow.Author.Rules.{rules}
use Rattle.job.proofs.assemble_job.assemble_inputs.Goals as goal

pub assemble_under-requires : goal.assemble_under-requires
assemble_under-requires c = (record { each = search rules; few = search rules }, search rules)

pub returns-in-Err : goal.returns-in-Err
returns-in-Err c =
    record { ended = (λ os t o. assemble_refused _ _ _ _ os _ _ _ _ _ (sym c.check_table.ensures ∙ c.in-Err.is) refl c.clear.ensures); result_in_bounds = refusal_length _ c.args.out.now }

pub returns : goal.returns
returns c =
    let e = c.assemble_under.ensures.ended in
    record { ended = (λ os t o. assemble_ready _ _ _ _ os _ _ _ _ _ (sym c.check_table.ensures ∙ c.in_default.is) t o (omega arith) e); result_in_bounds = told_length _ _ _ _ _ (body_sound _ _) e }
