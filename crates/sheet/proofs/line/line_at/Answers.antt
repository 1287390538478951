use mathlib.Core.Path.{sym, ◌∙◌}
use Rattle.spec_sheet.specs.Scan.{after}
use Rattle.spec_sheet.specs.Line.{line_at, line_head}
use Rattle.sheet.specs.Lines.{line_of}
use Rattle.sheet.proofs.AnswerLaws.{was_next, was_off}
use Rattle.sheet.proofs.LineLaws.{was_head, was_no_head}
use Rattle.sheet.proofs.line.line_at.Goals as goal

pub returns-in_err-head : goal.returns-in_err-head
unfolding line_at line_head after line_of
returns-in_err-head c = rw (was_no_head _ (sym c.head_at.ensures ∙ c.in_err-head.was)) c.from_residual.ensures

pub returns-in_err-jump : goal.returns-in_err-jump
unfolding line_at line_head after line_of
returns-in_err-jump c = rw (was_head _ (sym c.head_at.ensures ∙ c.in_ok-head.was), was_off _ (sym c.jump_at.ensures ∙ c.in_err-jump.was)) c.from_residual-in_err-jump.ensures

pub returns : goal.returns
unfolding line_at line_head after
returns c = rw (was_head _ (sym c.head_at.ensures ∙ c.in_ok-head.was), was_next _ (sym c.jump_at.ensures ∙ c.in_ok-jump.was)) c.line_types.ensures
