use Rattle.sheet.proofs.SheetAnswers.{refused, whole, some_opcode, fault_inside, fault_line}
use Rattle.sheet.proofs.AnswerLaws.{was_next, was_off, or_value, or_error, is_error}
use Rattle.spec_sheet.proofs.SheetLaws.{no_version, no_count, count_zero, with_ops}
use Rattle.spec_sheet.proofs.ScanLaws.{keyed_bound}
use Rattle.spec_sheet.specs.Scan.{line_end}
use Rattle.std.specs.Prelude.{Err}
use Rattle.lists.specs.Text.{text}
use native.Mathlib.Omega.{arith}
use mathlib.Core.Path.{sym, ◌∙◌, ap}
use Rattle.sheet.proofs.opcode.sheet_into.Goals as goal

pub returns-in_err-version : goal.returns-in_err-version
unfolding text
returns-in_err-version c =
    let a = c.args in
    let t = c.requires in
    let o = or_error _ _ c.ok_or.ensures.value c.in_err-version.was in
    let w = refused _ 1 _ _ (no_version a.s.now a.at (was_off _ (sym c.keyed_at.ensures ∙ o.0))) t.0 t.1 in
    record { value = is_error _ c.from_residual.ensures.1 ∙ (ap Err o.1 ∙ w.answer_is); types_after = w.types_are; ops_after = w.infos_are }

pub returns-in_err-count : goal.returns-in_err-count
unfolding text
returns-in_err-count c =
    let a = c.args in
    let t = c.requires in
    let v = was_next _ (sym c.keyed_at.ensures ∙ or_value _ _ c.ok_or.ensures.value c.in_ok-version.was) in
    let o = or_error _ _ c.ok_or-2.ensures.value c.in_err-count.was in
    let w = refused _ 2 _ _ (no_count a.s.now a.at _ _ v (was_off _ (sym c.keyed_at-2.ensures ∙ o.0))) t.0 t.1 in
    record { value = is_error _ c.from_residual-in_err-count.ensures.1 ∙ (ap Err o.1 ∙ w.answer_is); types_after = w.types_are; ops_after = w.infos_are }

pub returns-then-count-eq0 : goal.returns-then-count-eq0
unfolding text
returns-then-count-eq0 c =
    let a = c.args in
    let t = c.requires in
    let v = was_next _ (sym c.keyed_at.ensures ∙ or_value _ _ c.ok_or.ensures.value c.in_ok-version.was) in
    let n = was_next _ (sym c.keyed_at-2.ensures ∙ or_value _ _ c.ok_or-2.ensures.value c.in_ok-count.was) in
    let w = refused _ 2 _ _ (count_zero a.s.now a.at _ _ _ _ v n c.if-count-eq0.true) t.0 t.1 in
    record { value = w.answer_is; types_after = w.types_are; ops_after = w.infos_are }

pub read_ops-requires : goal.read_ops-requires
read_ops-requires c = c.requires

pub overflow_sub-result : goal.overflow_sub-result
unfolding text
overflow_sub-result c =
    let a = c.args in
    let v = was_next _ (sym c.keyed_at.ensures ∙ or_value _ _ c.ok_or.ensures.value c.in_ok-version.was) in
    let n = was_next _ (sym c.keyed_at-2.ensures ∙ or_value _ _ c.ok_or-2.ensures.value c.in_ok-count.was) in
    let e = with_ops a.s.now a.at _ _ _ _ v n c.if-count-eq0.false in
    omega (arith, some_opcode a.s.now a.at _ _ e (sym c.read_ops.ensures.value ∙ c.in-Ok.is))

pub overflow_add-result : goal.overflow_add-result
unfolding text
overflow_add-result c =
    let a = c.args in
    let n = was_next _ (sym c.keyed_at-2.ensures ∙ or_value _ _ c.ok_or-2.ensures.value c.in_ok-count.was) in
    let m = keyed_bound (text "count=") 256 line_end a.s.now _ _ _ n in
    omega (arith, m, fault_inside _ _ _ _ (sym c.read_ops.ensures.value ∙ c.in-Err.is))

pub returns-in-Ok : goal.returns-in-Ok
unfolding text
returns-in-Ok c =
    let a = c.args in
    let v = was_next _ (sym c.keyed_at.ensures ∙ or_value _ _ c.ok_or.ensures.value c.in_ok-version.was) in
    let n = was_next _ (sym c.keyed_at-2.ensures ∙ or_value _ _ c.ok_or-2.ensures.value c.in_ok-count.was) in
    let e = with_ops a.s.now a.at _ _ _ _ v n c.if-count-eq0.false in
    let o = c.read_ops.ensures in
    rw e (let w = whole _ _ a.s.now _ _ _ (sym o.value ∙ c.in-Ok.is) o.types_after in record { value = w.answer_is; types_after = w.types_are; ops_after = w.infos_are })

pub returns-in-Err : goal.returns-in-Err
unfolding text
returns-in-Err c =
    let a = c.args in
    let t = c.reset.ensures in
    let v = was_next _ (sym c.keyed_at.ensures ∙ or_value _ _ c.ok_or.ensures.value c.in_ok-version.was) in
    let n = was_next _ (sym c.keyed_at-2.ensures ∙ or_value _ _ c.ok_or-2.ensures.value c.in_ok-count.was) in
    let e = with_ops a.s.now a.at _ _ _ _ v n c.if-count-eq0.false in
    let w = refused _ _ _ _ (e ∙ fault_line _ _ _ (sym c.read_ops.ensures.value ∙ c.in-Err.is)) t.types_after t.ops_after in
    record { value = w.answer_is; types_after = w.types_are; ops_after = w.infos_are }
