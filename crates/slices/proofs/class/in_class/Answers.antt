use Rattle.slices.specs.Class.{in_class}
use borrow.Author.Rules.{rules}
use Rattle.slices.proofs.class.in_class.Goals as goal

pub returns : goal.returns
unfolding in_class
returns c = search rules
