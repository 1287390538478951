-- Hexadecimal digits by two, four and eight. Assumes nothing.
use Rattle.std.proofs.Common.{◌≡◌, ℕ, ◌/◌, ◌%◌, ◌^◌, ◌<◌, ◌≤◌, List, [], ◌∷◌, ◌++◌, sym, ◌∙◌, arith}
use Rattle.spec_numbers.specs.Print.{digit, digits, padded, hex_upper, hex_upper16}
use Rattle.spec_numbers.proofs.PrintLaws.{unpadded}
use Rattle.numbers.specs.Digits.{two_hex_digits, four_hex_digits, eight_hex_digits}
use Rattle.numbers.proofs.DigitTurns.{Turn, bare_behind, twice, one_digit}

module _ (letter : ℕ) where
  -- the last digits of a number in hexadecimal
  abbrev Hex : ℕ → ℕ → (ℕ → List ℕ) → Type 0
  Hex count unit back = Turn 16 letter 16 count unit back

  one : Hex 1 16 (λ d. digit letter d ∷ [])
  one = one_digit 16 letter 14 (omega arith)

  two : Hex 2 256 (two_hex_digits letter)
  two = twice 16 letter 16 1 16 (omega arith) one

  four : Hex 4 65536 (four_hex_digits letter)
  four = twice 16 letter 16 2 256 (omega arith) two

  eight : Hex 8 4294967296 (eight_hex_digits letter)
  eight = twice 16 letter 16 4 65536 (omega arith) four

  -- the last four of more
  pub hex_last_four : (n : ℕ) → 65536 ≤ n → n < 2 ^ 64 → digits 16 letter 16 n ≡ digits 16 letter 16 (n / 65536) ++ four_hex_digits letter (n % 65536)
  hex_last_four n h l = bare_behind 16 letter 16 four n h (omega arith)

  -- two digits and four of a number that has no more, with zeros in front
  pub hex_pair : (n : ℕ) → n < 256 → padded 2 (digits 16 letter 16 n) ≡ two_hex_digits letter n
  hex_pair n h = two.whole n h (omega arith)

  pub hex_four : (n : ℕ) → n < 65536 → padded 4 (digits 16 letter 16 n) ≡ four_hex_digits letter n
  hex_four n h = four.whole n h (omega arith)

  -- a number that has more than four needs no zeros
  pub hex_more : (n : ℕ) → 65536 ≤ n → n < 2 ^ 64 → padded 4 (digits 16 letter 16 n) ≡ digits 16 letter 16 n
  hex_more n h l = (four.behind 4 n (λ a b. omega arith) (omega arith) ∙ rw unpadded) ∙ sym (hex_last_four n h l)

-- sixteen digits
pub hex_sixteen : (n : ℕ) → n < 2 ^ 64 → hex_upper16 n ≡ eight_hex_digits 65 (n / 4294967296) ++ eight_hex_digits 65 (n % 4294967296)
unfolding hex_upper16 hex_upper
hex_sixteen n h = (twice 16 65 16 8 4294967296 (omega arith) (eight 65)).whole n h (omega arith)
