use mathlib.Core.Path.{refl}
use mathlib.Core.Path.{sym, ◌∙◌, ap}
use native.Mathlib.Omega.{arith}
use Rattle.sheet.specs.Sheets.{ops_of}
use Rattle.sheet.proofs.FilterLaws.{none_marked}
use Rattle.std.specs.Prelude.{Err}
use Rattle.sheet.proofs.AnswerLaws.{or_value, or_error, is_error}
use Rattle.sheet.proofs.OpsLoop.{start, ended, stopped, small, turn, not_all, tables}
use Rattle.sheet.proofs.opcode.read_ops.Goals as goal

pub loop-i-init : goal.loop-i-init
loop-i-init c =
    let p = c.requires in
    (start _ _ _ _ _ p.0 p.1, rw p.1 (none_marked _ _ refl))

pub store_line-requires : goal.store_line-requires
store_line-requires c = let i = c.loop-i.invariant in (i.0.bound, i.1)

pub returns-in_err-line : goal.returns-in_err-line
unfolding ops_of
returns-in_err-line c =
    let w = or_error _ _ c.ok_or.ensures.value c.in_err-line.was in
    let e = stopped _ _ _ _ _ _ _ _ c.loop-i.invariant.0 c.loop-i-test.true (sym c.store_line.ensures.value ∙ w.0) in
    record { value = is_error _ c.from_residual.ensures.1 ∙ (ap Err w.1 ∙ sym (ap ops_of e)); types_after = (λ os b f. not_all _ _ os b e f) }

pub overflow_add-least : goal.overflow_add-least
overflow_add-least c =
    let w = or_value _ _ c.ok_or.ensures.value c.in_ok-line.was in
    omega (arith, small _ _ _ _ _ _ _ _ c.loop-i.invariant.0 c.loop-i-test.true (sym c.store_line.ensures.value ∙ w))

pub loop-i-preserved : goal.loop-i-preserved
loop-i-preserved c =
    let w = or_value _ _ c.ok_or.ensures.value c.in_ok-line.was in
    let t = c.store_line.ensures in
    (turn _ _ _ _ _ _ _ _ c.loop-i.invariant.0 c.loop-i-test.true (sym t.value ∙ w) _ _ t.types_after t.ops_after, t.filtered)

pub returns : goal.returns
unfolding ops_of
returns c =
    let i = c.loop-i.invariant.0 in
    let e = ended _ _ _ _ _ _ _ _ i c.loop-i-test.false in
    record { value = rw (e, i.least_is) refl; types_after = (λ os b f. tables _ _ _ i.seen os _ b e i.types_are i.infos_are f) }
