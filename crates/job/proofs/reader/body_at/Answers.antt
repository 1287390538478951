use mathlib.Core.Path.{ap, ◌∙◌}
use native.Mathlib.Omega.{arith}
use Rattle.std.proofs.Common.{Err}
use Rattle.lists.specs.Text.{text}
use Rattle.sheet.proofs.AnswerLaws.{or_value, or_error, is_error}
use Rattle.job.proofs.BodyLaws.{off_line, ends_text, goes_on}
use Rattle.job.proofs.reader.body_at.Goals as goal

pub returns-in_err-body : goal.returns-in_err-body
unfolding text
returns-in_err-body c =
    let o = or_error _ _ c.ok_or.ensures.value c.in_err-body.was in
    rw (is_error _ c.from_residual.ensures.1 ∙ ap Err o.1) (off_line _ _ _ _ _ _ c.keyed_hex_at.ensures o.0)

pub returns-then-body-s : goal.returns-then-body-s
unfolding text
returns-then-body-s c = ends_text _ _ _ _ _ _ c.keyed_hex_at.ensures (or_value _ _ c.ok_or.ensures.value c.in_ok-body.was) (omega arith) c.if-body-s.true

pub returns : goal.returns
unfolding text
returns c = goes_on _ _ _ _ _ _ c.keyed_hex_at.ensures (or_value _ _ c.ok_or.ensures.value c.in_ok-body.was) c.if-body-s.false
