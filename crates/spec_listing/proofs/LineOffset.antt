-- The offset in front of a listed line: a token of lower-case hex digits, which is no name. Assumes nothing.
use mathlib.Core.Path.{◌≡◌, refl}
use mathlib.Core.Bool.{Bool, true, not}
use mathlib.Core.List.{[], ◌∷◌, ◌++◌}
use Prim.Native.Nat.{ℕ, ◌≤◌, ◌<◌}
use native.Mathlib.Omega.{arith}
use lib.ListN.{length, get_or}
use borrow.Author.Tests.{lt-ltb, le-ltb}
use Rattle.lists.specs.Scan.{all}
use Rattle.lists.specs.Text.{text}
use Rattle.lists.proofs.Tests.{by_leb, not-true, true_not_false, within_low, within_high}
use Rattle.spec_numbers.specs.Print.{digit, digits, hex_lower, hex_lower4}
use Rattle.spec_numbers.proofs.PrintLaws.{digits_all, digits_some, padded_all, padded_at_least, all_first}
use Rattle.spec_sheet.specs.Scan.{is_upper}
use Rattle.spec_sheet.proofs.NameTextLaws.{NameText}
use Rattle.spec_listing.specs.Line.{offset_text}
use Rattle.spec_listing.proofs.TokenBytes.{token_byte, Token, token_digit, token_letter}

-- shown, with two spaces behind it
pub offset_shown : (at : ℕ) → offset_text true at ≡ hex_lower4 at ++ (32 ∷ 32 ∷ [])
unfolding offset_text text
offset_shown at = refl

-- what holds of the digits 0 to 9 and a to f holds of every byte
pub offset_every : (p : ℕ → Bool) → ((b : ℕ) → 48 ≤ b → b ≤ 57 → p b ≡ true) → ((b : ℕ) → 97 ≤ b → b ≤ 102 → p b ≡ true) → (at : ℕ) → all p (hex_lower4 at) ≡ true
unfolding hex_lower4 hex_lower digit
offset_every p number letter at =
    padded_all 4 p (digits 16 97 16 at) (number 48 (omega arith) (omega arith))
    (digits_all 16 97 (omega arith) p
    (λ d h. by_leb 10 d
    (λ l. rw (le-ltb d 10 l) (letter _ (omega arith) (omega arith)))
    (λ l. rw (lt-ltb d 10 l) (number _ (omega arith) (omega arith))))
    16 at)

-- it is not empty
pub offset_some : (at : ℕ) → 0 < length (hex_lower4 at)
unfolding hex_lower4 hex_lower
offset_some at = omega (arith, padded_at_least 4 (digits 16 97 16 at), digits_some 16 97 (omega arith) 15 at)

-- it is a token
pub offset_token : (at : ℕ) → Token (hex_lower4 at)
offset_token at = record {
  bytes = offset_every token_byte token_digit (λ b l h. token_letter b (omega arith) (omega arith)) at;
  some = offset_some at;
}

-- it is no name, as no upper-case letter stands in front
pub offset_no_name : (at : ℕ) → NameText (hex_lower4 at) → ⊥
offset_no_name at n =
    true_not_false (is_upper (get_or (hex_lower4 at) 0 0)) n.upper
    (not-true _ (all_first (λ b. not (is_upper b)) (hex_lower4 at)
    (offset_every (λ b. not (is_upper b)) (λ b l h. rw (within_low 65 90 b (omega arith))) (λ b l h. rw (within_high 65 90 b (omega arith))) at)
    (offset_some at)))
