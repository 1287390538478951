use mathlib.Core.Path.{refl, sym, ◌∙◌}
use Rattle.sheet.proofs.AnswerLaws.{is_error}
use Rattle.operation.proofs.UnderLaws.{under_read, under_none}
use Rattle.decode.proofs.BodyAnswers.{refused}
use Rattle.decode.proofs.DecodeCases.{decode_large, decode_small}
use Rattle.decode.proofs.instructions.decode_body_of.Goals as goal

pub returns-then-body-gt-BODY_LIMIT : goal.returns-then-body-gt-BODY_LIMIT
returns-then-body-gt-BODY_LIMIT c = refused _ (decode_large c.args.sheet.now c.args.body.now c.if-body-gt-BODY_LIMIT.true) refl

pub returns-in_err-read : goal.returns-in_err-read
returns-in_err-read c =
    let e = decode_small c.args.sheet.now c.args.body.now c.if-body-gt-BODY_LIMIT.false in
    rw (is_error _ c.from_residual.ensures.1) (refused _ (e ∙ under_none _ _ (sym c.in_err-read.ensures.value)) refl)

pub returns : goal.returns
returns c =
    let e = decode_small c.args.sheet.now c.args.body.now c.if-body-gt-BODY_LIMIT.false in
    let s = c.in_ok-read.ensures in
    rw (e ∙ under_read _ _ (sym s.value), sym s.types_after) c.decode_under.ensures
