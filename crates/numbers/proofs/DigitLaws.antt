-- What a byte is worth as a digit, by the range that it is in. Assumes nothing.
use Rattle.std.proofs.Common.{◌≡◌, ℕ, ◌≤◌, false}
use Rattle.lists.specs.Choice.{within}
use Rattle.lists.proofs.Tests.{by_leb}
use Rattle.spec_numbers.specs.Parse.{digit_value}
use borrow.Author.Tests.{le-leb, lt-leb}

-- a byte outside a range
outside : (first last b : ℕ) → (first ≤ b → b ≤ last → ⊥) → within first last b ≡ false
outside first last b h =
    by_leb first b
    (λ l. by_leb b last (λ m. absurd (h l m)) (λ m. rw (le-leb first b l, lt-leb b last m)))
    (λ l. rw (lt-leb first b l))

-- a byte in none of the three ranges is no digit
pub no_digit : (b : ℕ) → (48 ≤ b → b ≤ 57 → ⊥) → (97 ≤ b → b ≤ 102 → ⊥) → (65 ≤ b → b ≤ 70 → ⊥) → 16 ≡ digit_value b
unfolding digit_value
no_digit b d l u = rw (outside 48 57 b d, outside 97 102 b l, outside 65 70 b u)
