use Rattle.spec_numbers.specs.LittleEndian.{le}
use Rattle.std.proofs.Common.{arith}
use Rattle.numbers.proofs.print_words.pair_word.Goals as goal

pub returns : goal.returns
unfolding le
returns c = (omega (arith, c.tens.ensures), omega (arith, c.tens.ensures))
