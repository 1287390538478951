use Rattle.slices.specs.Words.{four_at}
use borrow.Author.Rules.{rules}
use Rattle.slices.proofs.words.four_at.Goals as goal

pub returns : goal.returns
unfolding four_at
returns c = search rules
