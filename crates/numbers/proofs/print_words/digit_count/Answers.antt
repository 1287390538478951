use Rattle.std.proofs.Common.{ltb, arith}
use Rattle.numbers.proofs.WordDigits.{bool_pick, small_decimal}
use Rattle.numbers.proofs.print_words.digit_count.Goals as goal

pub returns : goal.returns
returns c =
    let n = c.args.n in
    omega (arith, (small_decimal n c.requires).count, c.from.ensures, c.from-2.ensures, c.from-3.ensures, bool_pick (ltb 9 n), bool_pick (ltb 99 n), bool_pick (ltb 999 n))
