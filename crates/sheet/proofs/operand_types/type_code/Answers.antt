use mathlib.Core.Path.{◌≡◌, sym, ◌∙◌, ap}
use Rattle.std.specs.List.{position}
use Rattle.lists.specs.Scan.{same}
use Rattle.lists.specs.Text.{text}
use Rattle.spec_sheet.specs.Types.{type_names}
use Rattle.sheet.proofs.NamePlaces.{code_at, name_at_place}
use Rattle.sheet.proofs.operand_types.type_code.Goals as goal

pub returns-in_err-i : goal.returns-in_err-i
unfolding type_names text code_at
returns-in_err-i c =
    let w = c.args.word.now in
    let e : c.index_of.result ≡ position (same w) type_names = c.index_of.ensures in
    c.from_residual.ensures ∙ sym (name_at_place w ∙ ap code_at (sym e ∙ c.in_err-i.was))

pub returns : goal.returns
unfolding type_names text code_at
returns c =
    let w = c.args.word.now in
    let e : c.index_of.result ≡ position (same w) type_names = c.index_of.ensures in
    sym (name_at_place w ∙ ap code_at (sym e ∙ c.in_ok-i.was))
