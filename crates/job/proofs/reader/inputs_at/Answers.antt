use Rattle.sheet.proofs.SheetAnswers as sheet
use Rattle.job.proofs.TableAnswerLaws as table
use Rattle.job.proofs.InputsLaws.{read_whole, strings_off, line_inside, sheet_off, sheet_other}
use mathlib.Core.Path.{sym, ap, ◌∙◌}
use Rattle.std.proofs.Common.{Err}
use native.Mathlib.Omega.{arith}
use Rattle.job.proofs.reader.inputs_at.Goals as goal

pub overflow_add-result : goal.overflow_add-result
overflow_add-result c =
    let a = c.args in
    omega (arith, (line_inside a.s.now a.at (sym c.sheet_at.ensures.value ∙ c.in-Err.is ∙ ap Err c.in-Malformed.is)).1)

pub overflow_sub-result : goal.overflow_sub-result
overflow_sub-result c =
    let a = c.args in
    omega (arith, (line_inside a.s.now a.at (sym c.sheet_at.ensures.value ∙ c.in-Err.is ∙ ap Err c.in-Malformed.is)).0)

pub overflow_add-strings_line-2 : goal.overflow_add-strings_line-2
overflow_add-strings_line-2 c =
    let a = c.args in
    omega (arith, sheet.few_lines a.s.now a.at (sym c.sheet_at.ensures.value ∙ c.in-Ok.is))

pub returns-in_default : goal.returns-in_default
returns-in_default c =
    let a = c.args in
    sheet_other a.s.now a.at (sym c.sheet_at.ensures.value ∙ c.in-Err.is) c.in_default.not-Malformed

pub overflow_add-result-in-Err-table_at : goal.overflow_add-result-in-Err-table_at
overflow_add-result-in-Err-table_at c =
    let a = c.args in
    let n = sheet.few_lines a.s.now a.at (sym c.sheet_at.ensures.value ∙ c.in-Ok.is) in
    omega (arith, n, table.few_lines a.s.now _ c.table_at.ensures c.in-Err-table_at.is)

pub overflow_add-result-2 : goal.overflow_add-result-2
overflow_add-result-2 c =
    let a = c.args in
    omega (arith, sheet.few_lines a.s.now a.at (sym c.sheet_at.ensures.value ∙ c.in-Ok.is))

pub overflow_add-result-3 : goal.overflow_add-result-3
overflow_add-result-3 c =
    let a = c.args in
    let n = sheet.few_lines a.s.now a.at (sym c.sheet_at.ensures.value ∙ c.in-Ok.is) in
    omega (arith, n, c.requires.1, table.few_strings a.s.now _ c.table_at.ensures c.in-Ok-table_at.is)

pub returns-in-Err-table_at : goal.returns-in-Err-table_at
returns-in-Err-table_at c =
    let a = c.args in
    strings_off a.s.now a.at a.line _ _ _ _ (sym c.sheet_at.ensures.value ∙ c.in-Ok.is) _ c.table_at.ensures c.in-Err-table_at.is

pub returns : goal.returns
returns c =
    let a = c.args in
    let w = c.sheet_at.ensures in
    read_whole a.s.now a.at a.line _ _ _ _ (sym w.value ∙ c.in-Ok.is) _ c.table_at.ensures c.in-Ok-table_at.is w.types_after w.ops_after

pub returns-in-Err : goal.returns-in-Err
returns-in-Err c =
    let a = c.args in
    sheet_off a.s.now a.at a.line _ _ _ _ (sym c.sheet_at.ensures.value ∙ c.in-Err.is ∙ ap Err c.in-Malformed.is)
