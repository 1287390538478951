-- Tokens: texts without space, quote, comma, slash or colon, as all printed numbers are. Assumes nothing.
use mathlib.Core.Path.{◌≡◌, refl}
use mathlib.Core.Bool.{Bool, true, false, not}
use mathlib.Core.List.{List, ◌∷◌}
use Prim.Native.Nat.{ℕ, ◌-◌, ◌≤◌, ◌<◌}
use native.Mathlib.Omega.{arith}
use lib.Dec.{eqb}
use lib.IntN.{ℤ, pos, negsuc}
use lib.ListN.{length, get_or}
use borrow.Author.Tests.{ne_eqb}
use Rattle.lists.specs.Choice.{both, within}
use Rattle.lists.specs.Scan.{all}
use Rattle.lists.proofs.Tests.{both_left, both_right, not-true, within_yes, within_least, within_most}
use Rattle.lists.proofs.Scans.{all_cons}
use Rattle.spec_numbers.specs.Print.{decimal, signed_decimal}
use Rattle.spec_numbers.specs.Double.{print_double}
use Rattle.spec_numbers.proofs.PrintLaws.{decimal_every, decimal_some, signed_every}
use Rattle.spec_numbers.proofs.DoubleTextLaws.{double_every, double_length}
use Rattle.spec_sheet.proofs.NameTextLaws.{all_at}
use Rattle.spec_strings.proofs.EscapeLaws.{last_of}

-- a byte of a token outside quotes: 33 to 126, but no quote, comma, slash or colon
unfoldable pub token_byte : ℕ → Bool
token_byte b = both (within 33 126 b) (both (both (not (eqb b 34)) (not (eqb b 44))) (both (not (eqb b 47)) (not (eqb b 58))))

pub token_byte_lem : (b : ℕ) → 33 ≤ b → b ≤ 126 → (b ≡ 34 → ⊥) → (b ≡ 44 → ⊥) → (b ≡ 47 → ⊥) → (b ≡ 58 → ⊥) → token_byte b ≡ true
unfolding token_byte
token_byte_lem b l h n34 n44 n47 n58 = rw (within_yes 33 126 b l h, ne_eqb b 34 n34, ne_eqb b 44 n44, ne_eqb b 47 n47, ne_eqb b 58 n58)

-- what such a byte is not
module _ (b : ℕ) (e : token_byte b ≡ true) where
  in_range : within 33 126 b ≡ true
  unfolding token_byte
  in_range = both_left (within 33 126 b) _ e

  others : both (both (not (eqb b 34)) (not (eqb b 44))) (both (not (eqb b 47)) (not (eqb b 58))) ≡ true
  unfolding token_byte
  others = both_right (within 33 126 b) _ e

  -- so no tab, line end or space
  pub token_least : 33 ≤ b
  token_least = within_least 33 126 b in_range

  pub token_most : b ≤ 126
  token_most = within_most 33 126 b in_range

  pub token_no_quote : eqb b 34 ≡ false
  token_no_quote = not-true (eqb b 34) (both_left (not (eqb b 34)) _ (both_left (both (not (eqb b 34)) (not (eqb b 44))) _ others))

  pub token_no_comma : eqb b 44 ≡ false
  token_no_comma = not-true (eqb b 44) (both_right (not (eqb b 34)) _ (both_left (both (not (eqb b 34)) (not (eqb b 44))) _ others))

  pub token_no_slash : eqb b 47 ≡ false
  token_no_slash = not-true (eqb b 47) (both_left (not (eqb b 47)) _ (both_right (both (not (eqb b 34)) (not (eqb b 44))) _ others))

-- one such byte or more
pub record Token (s : List ℕ) : Type 0 where
  pub bytes : all token_byte s ≡ true
  pub some : 0 < length s

-- its first and its last byte are such bytes, so that nothing is trimmed from it
module _ (s : List ℕ) (t : Token s) where
  pub token_first : token_byte (get_or s 0 0) ≡ true
  token_first = all_at token_byte s t.bytes 0 t.some

  pub token_last : token_byte (last_of s) ≡ true
  token_last = all_at token_byte s t.bytes (length s - 1) (omega (arith, t.some))

-- a digit, and what stands from `A` to `z`
pub token_digit : (b : ℕ) → 48 ≤ b → b ≤ 57 → token_byte b ≡ true
token_digit b l h = token_byte_lem b (omega arith) (omega arith) (λ z. omega arith) (λ z. omega arith) (λ z. omega arith) (λ z. omega arith)

pub token_letter : (b : ℕ) → 65 ≤ b → b ≤ 122 → token_byte b ≡ true
token_letter b l h = token_byte_lem b (omega arith) (omega arith) (λ z. omega arith) (λ z. omega arith) (λ z. omega arith) (λ z. omega arith)

-- a minus
token_minus : token_byte 45 ≡ true
unfolding token_byte
token_minus = refl

-- a token with a letter in front
pub lettered_token : (b : ℕ) (s : List ℕ) → 65 ≤ b → b ≤ 122 → Token s → Token (b ∷ s)
lettered_token b s l h t = record { bytes = all_cons token_byte b s (token_letter b l h) t.bytes; some = omega arith }

-- numbers, signed numbers and doubles are tokens
pub decimal_token : (n : ℕ) → Token (decimal n)
decimal_token n = record { bytes = decimal_every token_byte token_digit n; some = decimal_some n }

signed_some : (z : ℤ) → 0 < length (signed_decimal z)
unfolding signed_decimal
signed_some (pos n) = decimal_some n
signed_some (negsuc n) = omega arith

pub signed_token : (z : ℤ) → Token (signed_decimal z)
signed_token z = record { bytes = signed_every token_byte token_digit token_minus z; some = signed_some z }

pub double_token : (bits : ℕ) → Token (print_double bits)
double_token bits = record {
  bytes = double_every token_byte token_minus token_digit (λ b l h. token_letter b l (omega arith)) (λ b l h. token_letter b (omega arith) h) bits;
  some = (double_length bits).0;
}
