use mathlib.Core.Path.{sym}
use native.Mathlib.Omega.{arith}
use Rattle.sheet.proofs.AnswerLaws.{is_error}
use Rattle.decode.proofs.BodyAnswers.{too_few, enough, refused, was_refused}
use Rattle.decode.proofs.instructions.decode_under.Goals as goal

pub returns-in_err-n : goal.returns-in_err-n
returns-in_err-n c =
    rw (is_error _ c.from_residual.ensures.1) (refused _ (was_refused _ (sym c.in_err-n.ensures.value)) c.decode_body.auto.out)

pub returns-then-out-n : goal.returns-then-out-n
returns-then-out-n c =
    too_few _ c.in_ok-n.n c.args.out.now _ c.in_ok-n.ensures.by_index (sym c.in_ok-n.ensures.value) (omega (arith, c.if-out-n.true, c.decode_body.auto.out)) c.decode_body.auto.out

pub returns : goal.returns
returns c =
    enough _ c.in_ok-n.n c.args.out.now _ c.in_ok-n.ensures.by_index (sym c.in_ok-n.ensures.value) (omega (arith, c.if-out-n.false, c.decode_body.auto.out))
