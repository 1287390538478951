use borrow.Author.Rules.{rules}
use Rattle.lists.specs.Text.{text}
use Rattle.sheet.proofs.AnswerLaws.{quick_first}
use Rattle.sheet.proofs.line.jump_at.Goals as goal

pub returns : goal.returns
unfolding text
returns c = quick_first _ _ _ c.quick_jump.ensures c.or_else.ensures (λ p. search rules)
