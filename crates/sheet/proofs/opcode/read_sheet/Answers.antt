use Rattle.sheet.proofs.AnswerLaws.{is_error}
use Rattle.sheet.proofs.SheetAnswers.{refused, ends_here, goes_on, stays, few_lines}
use Rattle.spec_sheet.specs.Sheet.{sheet_of}
use lib.ListN.{length}
use native.Mathlib.Omega.{arith}
use mathlib.Core.Path.{sym, ◌∙◌}
use Rattle.sheet.proofs.opcode.read_sheet.Goals as goal

pub returns-then-sheet-s : goal.returns-then-sheet-s
unfolding sheet_of
returns-then-sheet-s c =
    let w = c.sheet_into.ensures in
    let g = c.in_ok-sheet.was in
    rw (ends_here (length c.args.s.now) _ (sym w.value ∙ g) c.if-sheet-s.true) (record { value = sym g ∙ w.value; types_after = w.types_after; ops_after = w.ops_after })

pub overflow_add-result : goal.overflow_add-result
overflow_add-result c =
    let w = c.sheet_into.ensures in
    omega (arith, few_lines c.args.s.now 0 (sym w.value ∙ c.in_ok-sheet.was))

pub returns : goal.returns
unfolding sheet_of
returns c =
    let w = c.sheet_into.ensures in
    let t = c.reset.ensures in
    let e = goes_on (length c.args.s.now) _ (sym w.value ∙ c.in_ok-sheet.was) c.if-sheet-s.false in
    let a = refused _ _ _ _ e t.types_after t.ops_after in
    record { value = a.answer_is; types_after = a.types_are; ops_after = a.infos_are }

pub returns-in_err-sheet : goal.returns-in_err-sheet
unfolding sheet_of
returns-in_err-sheet c =
    let w = c.sheet_into.ensures in
    let e = c.in_err-sheet.was in
    rw (stays (length c.args.s.now) _ (sym w.value ∙ e)) (record { value = is_error _ c.from_residual.ensures.1 ∙ (sym e ∙ w.value); types_after = w.types_after; ops_after = w.ops_after })
