use mathlib.Core.Path.{ap, sym, ◌∙◌}
use Rattle.std.specs.Prelude.{Ok}
use Rattle.carry.specs.Inputs.SheetsRead.{both_read, one_refused}
use Rattle.carry.proofs.AnswerLaws.{is_error}
use Rattle.carry.proofs.InputLaws.{first_malformed, second_malformed, both_good, largest_read, largest_byte}
use Rattle.carry.proofs.inputs.read_sheets.Goals as goal

pub returns-in_err-first : goal.returns-in_err-first
returns-in_err-first c = one_refused _ (first_malformed _ _ (sym c.read_sheet.ensures.value ∙ c.in_err-first.was)) (is_error _ c.from_residual.ensures.1)

pub returns-in_err-read_sheet : goal.returns-in_err-read_sheet
returns-in_err-read_sheet c =
    one_refused _ (second_malformed _ _ (sym c.read_sheet.ensures.value ∙ c.in_ok-first.was) (sym c.read_sheet-2.ensures.value ∙ c.in_err-read_sheet.was)) (is_error _ c.from_residual-in_err-read_sheet.ensures.1)

pub returns : goal.returns
returns c =
    let a = c.read_sheet.ensures in
    let b = c.read_sheet-2.ensures in
    let f = sym a.value ∙ c.in_ok-first.was in
    both_read a.types_after a.ops_after b.types_after b.ops_after (largest_byte _ f) (both_good _ _ f (sym b.value ∙ c.in_ok-read_sheet.was)) (ap Ok (largest_read _ f))
