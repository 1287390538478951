use Rattle.std.proofs.Common.{refl, arith}
use Rattle.numbers.proofs.print_words.magnitude.Goals as goal

pub returns-then-negative : goal.returns-then-negative
returns-then-negative c = (rw c.if-negative.true refl, omega arith)

pub returns-else-negative : goal.returns-else-negative
returns-else-negative c = (rw c.if-negative.false refl, omega (arith, c.requires))
