use Rattle.numbers.proofs.WordDigits.{eight_digits}
use Rattle.lists.proofs.Aheads.{same_ahead}
use Rattle.std.proofs.Common.{◌/◌, ◌%◌, arith}
use Rattle.numbers.proofs.print_words.put_eight_word.Goals as goal

pub returns : goal.returns
returns c =
    let n = c.args.n in
    same_ahead (rw (c.four_word.ensures.0, c.four_word-front.ensures.0) (eight_digits (n / 10000) (n % 10000) (omega arith) (omega arith))) c.set_word.ensures
