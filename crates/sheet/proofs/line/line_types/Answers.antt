use mathlib.Core.Path.{sym, ◌∙◌}
use Rattle.spec_sheet.specs.Scan.{after}
use Rattle.spec_sheet.specs.Line.{line_types}
use Rattle.sheet.specs.Lines.{line_of}
use Rattle.sheet.proofs.AnswerLaws.{was_place, was_no_place}
use Rattle.sheet.proofs.LineLaws.{was_types, was_no_types, line_whole}
use Rattle.sheet.proofs.line.line_types.Goals as goal

pub returns-in_err-types : goal.returns-in_err-types
unfolding line_types line_of
returns-in_err-types c = rw (was_no_types _ (sym c.types_at.ensures ∙ c.in_err-types.was)) c.from_residual.ensures

pub returns-in_err-next : goal.returns-in_err-next
unfolding line_types after line_of
returns-in_err-next c =
    let t = was_types _ (sym c.types_at.ensures ∙ c.in_ok-types.was) in
    rw (t.is_types, was_no_place _ (sym c.literal_at.ensures ∙ c.in_err-next.was)) c.from_residual-in_err-next.ensures

pub returns : goal.returns
returns c =
    let a = c.args in
    let e = was_place _ (sym c.literal_at.ensures ∙ c.in_ok-next.was) in
    line_whole a.s.now a.head.code a.head.start a.head.size a.jump _ _ (was_types _ (sym c.types_at.ensures ∙ c.in_ok-types.was)) e.is_next
