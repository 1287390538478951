use Rattle.numbers.proofs.WordDigits.{four_digits_lem}
use Rattle.lists.proofs.Aheads.{same_ahead}
use Rattle.numbers.proofs.print_words.put_four_word.Goals as goal

pub returns : goal.returns
returns c = same_ahead (rw c.four_word.ensures.0 (four_digits_lem c.args.n c.requires.0)) c.set_word.ensures
