use borrow.Author.Tests.{eq-eqb, ne_eqb}
use Rattle.lists.specs.Text.{text}
use Rattle.carry.proofs.opcodes.opcode_into.Goals as goal

pub returns-then-size-eq0 : goal.returns-then-size-eq0
unfolding text
returns-then-size-eq0 c = rw (eq-eqb _ 0 c.if-size-eq0.true) c.find.ensures

pub returns : goal.returns
returns c = rw (ne_eqb _ 0 c.if-size-eq0.false, ← c.part_of.ensures) c.find-2.ensures
