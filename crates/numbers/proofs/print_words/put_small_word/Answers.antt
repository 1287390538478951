use Rattle.spec_numbers.specs.Print.{decimal}
use Rattle.numbers.proofs.WordDigits.{small_decimal}
use Rattle.lists.proofs.Aheads.{same_ahead}
use Rattle.std.proofs.Common.{arith, rules}
use Rattle.numbers.proofs.print_words.put_small_word.Goals as goal

pub overflow_mul-w : goal.overflow_mul-w
overflow_mul-w c = let k = (small_decimal c.args.n c.requires.0).few in search (rules, k, c.digit_count-w.ensures)

pub overflow_sub-w : goal.overflow_sub-w
overflow_sub-w c = let k = (small_decimal c.args.n c.requires.0).few in search (rules, k, c.digit_count-w.ensures)

pub overflow_shr-four_word : goal.overflow_shr-four_word
overflow_shr-four_word c = let k = (small_decimal c.args.n c.requires.0).few in search (rules, k, c.digit_count-w.ensures)

pub set_word-requires : goal.set_word-requires
set_word-requires c = (omega (arith, (small_decimal c.args.n c.requires.0).few, c.digit_count-w.ensures), c.requires.1)

pub returns : goal.returns
returns c =
    let s = small_decimal c.args.n c.requires.0 in
    let p = same_ahead {t = decimal c.args.n} (rw (c.four_word.ensures.0, c.digit_count-w.ensures) s.shifted) c.set_word.ensures in
    record { by_words = p; upper_bound = omega (arith, p.next, s.few) }
