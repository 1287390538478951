use Rattle.list_labels.proofs.PartLaws.{between_all}
use borrow.Author.Rules.{rules}
use Rattle.list_labels.proofs.distinct.count_different.Goals as goal

pub count_between-requires : goal.count_between-requires
count_between-requires c = (between_all _ _ (λ i. (c.slice_known-1.given i).fits), search rules, search rules, search rules)
