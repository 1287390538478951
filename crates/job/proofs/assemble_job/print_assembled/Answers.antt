use mathlib.Core.Path.{sym, ◌∙◌}
use native.Mathlib.Omega.{arith}
use Rattle.answers.proofs.NumberLaws.{same_report}
use Rattle.job.proofs.AnswerLaws.{length_told}
use Rattle.job.proofs.PrintLaws.{fault_prints, report_print}
use Rattle.job.proofs.AssembleLaws.{was_text, was_bad_text, text_prints, to_end}
use Rattle.job.proofs.assemble_job.print_assembled.Goals as goal

pub slice_bounds-assemble_inputs-count : goal.slice_bounds-assemble_inputs-count
slice_bounds-assemble_inputs-count c =
    let x = c.args.inputs in
    omega (arith, (was_text x.tables.text.now x.read.end x.read.line _ (sym c.text_at.ensures ∙ c.in-Ok.is)).inside)

pub slice_bounds-assemble_inputs-start : goal.slice_bounds-assemble_inputs-start
slice_bounds-assemble_inputs-start c =
    let x = c.args.inputs in
    omega (arith, (was_text x.tables.text.now x.read.end x.read.line _ (sym c.text_at.ensures ∙ c.in-Ok.is)).inside)

pub put_answer-requires : goal.put_answer-requires
put_answer-requires c = (omega (arith, length_told c.from.ensures, c.assemble_inputs-answer.ensures.result_in_bounds, c.assemble_inputs-answer.auto), omega (arith, c.assemble_inputs-answer.auto))

pub returns-in-Ok : goal.returns-in-Ok
returns-in-Ok c = λ os t o.
    let x = c.args.inputs in
    let job = x.tables.text.now in
    text_prints job x.read.end x.read.line (record { opcodes = os; bytes = x.strings.bytes.now; ends = x.strings.ends.now }) _ (was_text job x.read.end x.read.line _ (sym c.text_at.ensures ∙ c.in-Ok.is)) _ _ _ (to_end c.in-Ok.start job) (omega arith) _ _ _ _ (c.assemble_inputs-answer.ensures.ended os t o)
    (report_print _ _ _ _ (same_report c.from.ensures) c.put_answer.ensures)

pub returns-in-Err : goal.returns-in-Err
returns-in-Err c = λ os t o.
    let x = c.args.inputs in
    let job = x.tables.text.now in
    fault_prints job (was_bad_text job x.read.end x.read.line (sym c.text_at.ensures ∙ c.in-Err.is) _) c.refused.ensures
