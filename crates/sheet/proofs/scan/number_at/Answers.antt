use Rattle.sheet.specs.Answers.{step_of}
use Rattle.numbers.proofs.AnswerLaws.{number_is, number_bad}
use Rattle.spec_numbers.specs.Parse.{unsigned_value}
use Rattle.spec_sheet.proofs.ScanLaws.{number_padded, number_value, number_none}
use mathlib.Core.Path.{sym, ◌∙◌, ap}
use Rattle.sheet.proofs.scan.number_at.Goals as goal

pub returns-then-is_padded : goal.returns-then-is_padded
unfolding step_of
returns-then-is_padded c =
    let a = c.args in
    sym (ap step_of (number_padded a.s.now a.at c.digits_at-k.result a.most c.digits_at-k.ensures.0 (sym c.is_padded.ensures ∙ c.if-is_padded.true)))

pub returns-in_err-value : goal.returns-in_err-value
unfolding step_of
returns-in_err-value c =
    let a = c.args in
    let v = ap (unsigned_value 10 a.most) (sym c.part_of-digits.ensures) ∙ number_bad _ (sym c.unsigned_value.ensures ∙ c.in_err-value.was) in
    c.from_residual.ensures ∙ sym (ap step_of (number_none a.s.now a.at c.digits_at-k.result a.most c.digits_at-k.ensures.0 (sym c.is_padded.ensures ∙ c.if-is_padded.false) v))

pub returns : goal.returns
unfolding step_of
returns c =
    let a = c.args in
    let v = ap (unsigned_value 10 a.most) (sym c.part_of-digits.ensures) ∙ number_is _ _ (sym c.unsigned_value.ensures ∙ c.in_ok-value.was) in
    sym (ap step_of (number_value a.s.now a.at c.digits_at-k.result a.most _ c.digits_at-k.ensures.0 (sym c.is_padded.ensures ∙ c.if-is_padded.false) v))
