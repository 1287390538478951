use Rattle.sheet.specs.NameFilter.{in_filter}
use borrow.Author.Rules.{rules}
use Rattle.sheet.proofs.name_filter.in_filter.Goals as goal

pub returns : goal.returns
unfolding in_filter
returns c = search rules
