use Rattle.numbers.proofs.DecimalTurns.{decimal_last_four, decimal_last_eight}
use Rattle.lists.proofs.Aheads.{same_ahead, ahead_length, ◌and_words◌}
use Rattle.std.proofs.Common.{sym, arith}
use Rattle.numbers.proofs.print_words.put_digits.Goals as goal

pub returns-then-n-lt10000 : goal.returns-then-n-lt10000
returns-then-n-lt10000 c = record { by_words = c.put_small_word.ensures.by_words; upper_bound = omega (arith, c.put_small_word.ensures.upper_bound) }

pub put_four_word-requires : goal.put_four_word-requires
put_four_word-requires c = (omega arith, omega (arith, c.put_small_word-k.ensures.upper_bound, ahead_length c.put_small_word-k.ensures.by_words))

pub returns-then-n-lt100000000 : goal.returns-then-n-lt100000000
returns-then-n-lt100000000 c =
    record { by_words = same_ahead (sym (decimal_last_four c.args.n (omega arith) (omega arith))) (c.put_small_word-k.ensures.by_words and_words c.put_four_word.ensures); upper_bound = omega (arith, c.put_small_word-k.ensures.upper_bound, c.put_four_word.ensures.next) }

pub put_eight_word-requires : goal.put_eight_word-requires
put_eight_word-requires c = (omega arith, omega (arith, c.put_small_word-k-2.ensures.upper_bound, ahead_length c.put_small_word-k-2.ensures.by_words))

pub returns : goal.returns
returns c =
    record { by_words = same_ahead (sym (decimal_last_eight c.args.n (omega arith) (omega arith))) (c.put_small_word-k-2.ensures.by_words and_words c.put_eight_word.ensures); upper_bound = omega (arith, c.put_small_word-k-2.ensures.upper_bound, c.put_eight_word.ensures.next) }
