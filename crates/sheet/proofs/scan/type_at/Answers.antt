use borrow.Author.Rules.{rules}
use Rattle.sheet.proofs.AnswerLaws.{quick_first}
use Rattle.sheet.proofs.scan.type_at.Goals as goal

pub returns : goal.returns
returns c = quick_first _ _ _ c.quick_type.ensures c.or_else.ensures (λ p. search rules)
