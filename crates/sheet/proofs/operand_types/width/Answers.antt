use Rattle.spec_sheet.specs.Types.{width_of}
use borrow.Author.Rules.{rules}
use Rattle.sheet.proofs.operand_types.width.Goals as goal

pub returns : goal.returns
unfolding width_of
returns c = search rules
