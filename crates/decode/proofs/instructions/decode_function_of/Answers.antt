use mathlib.Core.Path.{refl, sym, ◌∙◌}
use Rattle.sheet.proofs.AnswerLaws.{is_error}
use Rattle.operation.proofs.UnderLaws.{under_read, under_none}
use Rattle.sheet.specs.Sheets.{types_in}
use Rattle.spec_sheet.specs.Sheet.{sheet_of}
use Rattle.spec_body.specs.Operation.{function_outcome, decode_function}
use Rattle.decode.proofs.BodyAnswers.{refused}
use Rattle.decode.proofs.DecodeCases.{outcome_at, function_as}
use Rattle.decode.proofs.instructions.decode_function_of.Goals as goal

pub returns-in_err-read : goal.returns-in_err-read
unfolding decode_function
returns-in_err-read c =
    rw (is_error _ c.from_residual.ensures.1) (refused _ (under_none _ _ (sym c.in_err-read.ensures.value)) refl)

pub returns-in_err-f : goal.returns-in_err-f
unfolding decode_function outcome_at
returns-in_err-f c =
    let a = c.args in
    let e = under_read _ _ (sym c.in_ok-read.ensures.value) ∙ function_as (types_in (sheet_of a.sheet.now)) c.in_ok-read.read.largest a.area.functions.now a.area.bytes.now a.area.base a.id c.in_err-f.ensures.value refl in
    rw (is_error _ c.from_residual-in_err-f.ensures.1) (refused _ e refl)

pub returns : goal.returns
unfolding decode_function outcome_at
returns c =
    let a = c.args in
    let s = c.in_ok-read.ensures in
    let e = under_read (sheet_of a.sheet.now) (λ types last. function_outcome types last a.area.functions.now a.area.bytes.now a.area.base a.id) (sym s.value) ∙ function_as (types_in (sheet_of a.sheet.now)) c.in_ok-read.read.largest a.area.functions.now a.area.bytes.now a.area.base a.id c.in_ok-f.ensures.value refl in
    rw (e, sym s.types_after, sym c.part_of.ensures) c.decode_under.ensures
