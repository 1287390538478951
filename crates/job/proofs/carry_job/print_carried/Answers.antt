use native.Mathlib.Omega.{arith}
use Rattle.answers.proofs.NumberLaws.{same_report}
use Rattle.job.proofs.AnswerLaws.{length_told}
use Rattle.job.proofs.PrintLaws.{report_print}
use Rattle.job.proofs.CarryLaws.{carried_prints}
use Rattle.job.proofs.carry_job.print_carried.Goals as goal

pub put_answer-requires : goal.put_answer-requires
put_answer-requires c = (omega (arith, length_told c.from.ensures, c.carry_inputs-answer.ensures.result_in_bounds, c.carry_inputs-answer.auto), omega (arith, c.carry_inputs-answer.auto))

pub returns : goal.returns
returns c = λ os os₂ t o a t₂ o₂.
    let x = c.args in
    carried_prints x.first.tables.text.now (record { opcodes = os; bytes = x.first.strings.bytes.now; ends = x.first.strings.ends.now }) (record { opcodes = os₂; bytes = x.second.strings.bytes.now; ends = x.second.strings.ends.now }) x.body.now _ _ _ (omega arith) (c.carry_inputs-answer.ensures.ended os os₂ t o a t₂ o₂)
    (report_print _ _ _ _ (same_report c.from.ensures) c.put_answer.ensures)
