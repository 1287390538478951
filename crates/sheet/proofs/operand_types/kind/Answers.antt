use Rattle.spec_sheet.specs.Types.{kind_of}
use borrow.Author.Rules.{rules}
use Rattle.sheet.proofs.operand_types.kind.Goals as goal

pub returns : goal.returns
unfolding kind_of
returns c = search rules
