use mathlib.Core.Path.{refl, sym, ap, ◌∙◌}
use native.Mathlib.Omega.{arith}
use Rattle.std.proofs.Common.{Err}
use Rattle.job.specs.TableAnswers.Tabled.{faulty}
use Rattle.sheet.proofs.AnswerLaws.{was_next, was_off, or_value, or_error, is_error}
use Rattle.spec_job.proofs.TableLaws.{no_strings, with_strings, few_strings}
use Rattle.lists.specs.Text.{text}
use Rattle.job.proofs.table.table_at.Goals as goal

pub returns-in_err-read : goal.returns-in_err-read
unfolding text
returns-in_err-read c =
    let a = c.args in
    let o = or_error _ _ c.ok_or.ensures.value c.in_err-read.was in
    rw (is_error _ c.from_residual.ensures.1 ∙ ap Err o.1) (faulty 0 (no_strings a.s.now a.at (was_off _ (sym c.keyed_at-count.ensures ∙ o.0))) refl)

pub strings_from-requires : goal.strings_from-requires
unfolding text
strings_from-requires c =
    let a = c.args in
    let n = few_strings a.s.now a.at _ _ (was_next _ (sym c.keyed_at-count.ensures ∙ or_value _ _ c.ok_or.ensures.value c.in_ok-read.was)) in
    (c.requires.0, omega (arith, n, c.requires.1))

pub returns : goal.returns
unfolding text
returns c =
    let a = c.args in
    rw (with_strings a.s.now a.at _ _ (was_next _ (sym c.keyed_at-count.ensures ∙ or_value _ _ c.ok_or.ensures.value c.in_ok-read.was))) c.strings_from.ensures
