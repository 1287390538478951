use Rattle.numbers.proofs.WordLaws.{wide}
use Rattle.std.proofs.Common.{arith}
use Rattle.numbers.proofs.words.set_word.Goals as goal

pub overflow_add-result : goal.overflow_add-result
overflow_add-result c = omega (arith, c.requires)

pub returns : goal.returns
returns c = let a = c.args in wide a.w a.v c.requires.0 (omega arith) c.requires.1 c.put_eight.ensures
