use mathlib.Core.Path.{sym, ◌∙◌}
use borrow.Author.Tests.{eq-eqb, ne_eqb}
use Rattle.carry.proofs.opcodes.state_of.Goals as goal

pub returns-then-operand_count : goal.returns-then-operand_count
returns-then-operand_count c = rw (ne_eqb _ _ (λ e. c.if-operand_count.true (c.operand_count.ensures ∙ (e ∙ sym c.operand_count-2.ensures))))

pub returns-then-is_copied : goal.returns-then-is_copied
returns-then-is_copied c = rw (eq-eqb _ _ (sym c.operand_count.ensures ∙ (c.if-operand_count.false ∙ c.operand_count-2.ensures)), sym c.is_copied.ensures ∙ c.if-is_copied.true)

pub returns-else-is_copied : goal.returns-else-is_copied
returns-else-is_copied c = rw (eq-eqb _ _ (sym c.operand_count.ensures ∙ (c.if-operand_count.false ∙ c.operand_count-2.ensures)), sym c.is_copied.ensures ∙ c.if-is_copied.false)
