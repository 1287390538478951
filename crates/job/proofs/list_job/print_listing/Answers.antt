use native.Mathlib.Omega.{arith}
use Rattle.answers.proofs.NumberLaws.{same_report}
use Rattle.job.proofs.AnswerLaws.{length_told}
use Rattle.job.proofs.PrintLaws.{report_print}
use Rattle.job.proofs.ListLaws.{listing_prints}
use Rattle.job.proofs.list_job.print_listing.Goals as goal

pub put_answer-requires : goal.put_answer-requires
put_answer-requires c = (omega (arith, length_told c.from.ensures, c.list_inputs-answer.ensures.result_in_bounds, c.list_inputs-answer.auto), omega (arith, c.list_inputs-answer.auto))

pub returns : goal.returns
returns c = λ os t o a.
    let x = c.args in
    listing_prints x.inputs.tables.text.now (record { opcodes = os; bytes = x.inputs.strings.bytes.now; ends = x.inputs.strings.ends.now }) x.body.now _ _ _ (omega arith) (c.list_inputs-answer.ensures.ended os t o a)
    (report_print _ _ _ _ (same_report c.from.ensures) c.put_answer.ensures)
