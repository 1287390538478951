use mathlib.Core.Path.{◌≡◌, refl, ap, ◌∙◌}
use native.Mathlib.Omega.{arith}
use Rattle.std.proofs.Common.{Err}
use Rattle.sheet.proofs.AnswerLaws.{or_value, or_error, is_error}
use Rattle.job.proofs.StringsLoop.{begin, ended, stopped, small, turn}
use Rattle.job.proofs.table.strings_from.Goals as goal

pub loop-i-init : goal.loop-i-init
loop-i-init c =
    let a = c.args in
    begin a.s.now a.start a.count a.bytes.now a.ends.now (omega arith)

pub returns-in_err-string : goal.returns-in_err-string
returns-in_err-string c =
    let o = or_error _ _ c.ok_or.ensures.value c.in_err-string.was in
    rw (is_error _ c.from_residual.ensures.1 ∙ ap Err o.1) (stopped _ _ _ _ _ _ _ _ _ _ c.loop-i.invariant c.loop-i-test.true _ _ c.string_at.ensures _ o.0)

pub overflow_cast-ends : goal.overflow_cast-ends
overflow_cast-ends c = omega (arith, small _ _ _ _ _ _ _ _ _ _ c.loop-i.invariant c.loop-i-test.true _ _ c.string_at.ensures (or_value _ _ c.ok_or.ensures.value c.in_ok-string.was) c.requires.0)

pub loop-i-preserved : goal.loop-i-preserved
loop-i-preserved c = turn _ _ _ _ _ _ _ _ _ _ c.loop-i.invariant c.loop-i-test.true _ _ c.string_at.ensures (or_value _ _ c.ok_or.ensures.value c.in_ok-string.was) c.requires.0 _ (omega (arith, c.requires.1, c.loop-i.invariant.same_ends)) refl

pub returns : goal.returns
returns c =
    let l = c.loop-i in
    let e : l.i ≡ c.args.count = omega (arith, l.invariant.few) in
    rw e at (ended _ _ _ _ _ _ _ _ _ _ l.invariant (omega arith))
