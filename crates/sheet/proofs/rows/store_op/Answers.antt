use Rattle.sheet.proofs.StoreLaws.{follows}
use mathlib.Core.Path.{◌≡◌, refl, sym, ◌∙◌}
use Rattle.sheet.proofs.FilterLaws.{unmarked_new, marked_more}
use Rattle.spec_sheet.specs.Line.{name_in}
use Rattle.spec_sheet.proofs.NameLaws.{follow_low}
use mathlib.Core.Bool.{true, false}
use lib.ListN.{take}
use Rattle.spec_sheet.specs.Sheet.{is_missing, find_name}
use Rattle.sheet.proofs.AnswerLaws.{name_told, name_missing}
use Rattle.sheet.proofs.rows.store_op.Goals.{else-in_filter-via-then-in_filter+else-is_some, else-in_filter-via-else-in_filter}
use Rattle.sheet.proofs.rows.store_op.Goals as goal

pub returns-then-code-least : goal.returns-then-code-least
returns-then-code-least c =
    let a = c.args in
    record { value = sym (follow_low a.s.now a.least a.ops.now a.code (name_in a.s.now a.info) c.if-code-least.true); types_after = refl; ops_after = refl; filtered = c.requires.2 }

pub returns-then-is_some : goal.returns-then-is_some
returns-then-is_some c =
    let a = c.args in
    let told = name_told _ _ true c.find_name.ensures (sym c.is_some.ensures ∙ c.if-is_some.true) in
    record { value = follows a.s.now a.least a.ops.now a.code _ _ _ _ c.if-code-least.false c.part_of-name.ensures told refl; types_after = refl; ops_after = refl; filtered = c.requires.2 }

pub returns : goal.returns
returns c =
    let a = c.args in
    let n = c.part_of-name.ensures in
    let h = c.name_hash-h in
    let told : true ≡ is_missing (find_name a.s.now c.part_of-name.result.now 0 (take a.least a.ops.now)) =
    elim c.else-in_filter.branch [
      | else-in_filter-via-then-in_filter+else-is_some w ↦ name_told _ _ false w.find_name.ensures (sym w.is_some.ensures ∙ w.if-is_some.false)
      | else-in_filter-via-else-in_filter w ↦ name_missing _ (unmarked_new a.s.now a.filter.now a.ops.now _ h.result c.requires.2 h.ensures.0 (sym c.in_filter.ensures ∙ w.if-in_filter.false) a.least)
    ] in
    record { value = follows a.s.now a.least a.ops.now a.code _ _ _ _ c.if-code-least.false n told refl; types_after = refl; ops_after = refl; filtered = marked_more a.s.now a.filter.now a.ops.now h.result h.ensures.1 c.requires.2 _ a.code a.info _ n h.ensures.0 c.add_hash.ensures }
