use mathlib.Core.Path.{ap, sym, ◌∙◌}
use Rattle.spec_listing.specs.Module.{banner}
use Rattle.lists.proofs.Writes.{same_piece}
use Rattle.list_module.proofs.TitleLaws.{name_found, name_missing}
use Rattle.list_module.proofs.banner.put_title.Goals as goal

pub returns-in_default : goal.returns-in_default
returns-in_default c =
    let a = c.args in
    same_piece (ap (banner a.id) (name_missing a.strings.bytes.now a.strings.ends.now a.name (sym c.string_at.ensures ∙ c.in_default.is))) c.put_banner.ensures

pub returns : goal.returns
returns c =
    let a = c.args in
    same_piece (ap (banner a.id) (c.part.ensures ∙ name_found a.strings.bytes.now a.strings.ends.now a.name _ (sym c.string_at.ensures ∙ c.in-Some.is))) c.put_banner-2.ensures
