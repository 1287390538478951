use Rattle.numbers.proofs.WordDigits.{four_of_pairs}
use Rattle.std.proofs.Common.{arith}
use Rattle.numbers.proofs.print_words.four_word.Goals as goal

pub returns : goal.returns
returns c = (four_of_pairs _ _ _ _ c.hundreds-h.ensures c.pair_word.ensures.0 c.pair_word-2.ensures.0, omega (arith, c.pair_word.ensures.1, c.pair_word-2.ensures.1))
