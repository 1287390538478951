use Rattle.sheet.proofs.LetterWords.{others, letters_there}
use Rattle.spec_numbers.proofs.ZeroLaws.{low_zero}
use lib.Count.{count_trailing_zeros, trailing_le}
use lib.Bits.{bit_or, and_le_r}
use native.Mathlib.Omega.{arith}
use Prim.Native.Nat.{◌*◌, ◌/◌, ◌≤◌}
use Rattle.sheet.proofs.letter_word.letters_in_front.Goals as goal

pub overflow_add-from_a : goal.overflow_add-from_a
overflow_add-from_a c = omega (arith, and_le_r (bit_or c.args.w 0x2020202020202020) 0x7f7f7f7f7f7f7f7f)

pub overflow_add-behind_z : goal.overflow_add-behind_z
overflow_add-behind_z c = omega (arith, and_le_r (bit_or c.args.w 0x2020202020202020) 0x7f7f7f7f7f7f7f7f)

pub overflow_cast-result : goal.overflow_cast-result
overflow_cast-result c = omega (arith, trailing_le 64 (others 8 c.args.w))

pub returns : goal.returns
returns c =
    let w = c.args.w in
    let z = count_trailing_zeros 64 (others 8 w) in
    let h : z / 8 ≤ 8 = omega (arith, trailing_le 64 (others 8 w)) in
    (h, letters_there 8 (z / 8) w h (low_zero 64 (8 * (z / 8)) (others 8 w) (omega arith)))
