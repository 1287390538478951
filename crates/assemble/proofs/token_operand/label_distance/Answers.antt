use Rattle.assemble.proofs.ValueLaws.{label_at, label_missing}
use Rattle.sheet.proofs.AnswerLaws.{is_error, or_value, or_error}
use mathlib.Core.Path.{sym, ◌∙◌}
use Rattle.assemble.proofs.token_operand.label_distance.Goals as goal

pub returns-in_err-at : goal.returns-in_err-at
returns-in_err-at c = λ l e.
    let n = or_error _ _ c.ok_or.ensures.value c.in_err-at.was in
    is_error _ c.from_residual.ensures.1 ∙ rw n.1 (label_missing c.args.width c.args.offset l (sym e ∙ n.0))

pub returns : goal.returns
returns c = λ l e. label_at c.args.width c.args.offset l _ c.requires (sym e ∙ or_value _ _ c.ok_or.ensures.value c.in_ok-at.was) c.distance_to.ensures
