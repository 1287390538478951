use Rattle.std.proofs.Common.{ℕ, ◌+◌, ◌/◌, ◌%◌, arith}
use lib.Bits.{and_le_r}
use Rattle.numbers.proofs.WordDigits.{values_of, digits_sum}
use Rattle.numbers.proofs.print_words.offset_word.Goals as goal

-- the four digits
abbrev values : ℕ → ℕ
values n = values_of (n / 256 / 16) (n / 256 % 16) (n % 256 / 16) (n % 256 % 16)

pub overflow_mul-result : goal.overflow_mul-result
overflow_mul-result c = omega (arith, and_le_r (values c.args.n + 0x06060606) 0x10101010)

pub overflow_add-result : goal.overflow_add-result
overflow_add-result c = omega (arith, and_le_r (values c.args.n + 0x06060606) 0x10101010)

pub overflow_add-result-2 : goal.overflow_add-result-2
overflow_add-result-2 c = omega (arith, and_le_r (values c.args.n + 0x06060606) 0x10101010)

pub returns : goal.returns
returns c = digits_sum _ _ _ _ (omega arith) (omega arith) (omega arith) (omega arith)
