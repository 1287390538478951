use mathlib.Core.Path.{sym, ◌∙◌, refl}
use Rattle.spec_sheet.specs.Scan.{after}
use Rattle.spec_sheet.specs.Line.{head_at}
use Rattle.sheet.specs.Lines.{head_of}
use Rattle.sheet.proofs.AnswerLaws.{was_next, was_off}
use Rattle.sheet.proofs.line.head_at.Goals as goal

pub returns-in_err-op : goal.returns-in_err-op
unfolding head_at after head_of
returns-in_err-op c = rw (was_off _ (sym c.op_at.ensures ∙ c.in_err-op.was)) c.from_residual.ensures

pub returns-in_err-name : goal.returns-in_err-name
unfolding head_at after head_of
returns-in_err-name c = rw (was_next _ (sym c.op_at.ensures ∙ c.in_ok-op.was), was_off _ (sym c.name_at.ensures ∙ c.in_err-name.was)) c.from_residual-in_err-name.ensures

pub returns : goal.returns
unfolding head_at after head_of
returns c = rw (was_next _ (sym c.op_at.ensures ∙ c.in_ok-op.was), was_next _ (sym c.name_at.ensures ∙ c.in_ok-name.was)) refl
