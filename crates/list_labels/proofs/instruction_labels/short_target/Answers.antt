use mathlib.Core.Path.{refl}
use Rattle.spec_sheet.specs.Types.{family_of, width_of}
use borrow.Author.Rules.{rules}
use Rattle.list_labels.proofs.instruction_labels.short_target.Goals as goal

pub target_of-target-requires : goal.target_of-target-requires
unfolding family_of width_of
target_of-target-requires c = (search rules, refl, c.wide_byte.ensures.1)
