-- Where records start, and records that stand one behind the other. Assumes nothing.
use Rattle.std.specs.Prelude.{◌≡◌, List, [], ◌∷◌, ℕ, ◌+◌, ◌≤◌}
use Rattle.spec_body.specs.Record.{offset_of, span_of}

-- the starts of the instructions, and the body's length
unfoldable pub places_of : List (List ℕ) → ℕ → List ℕ
places_of [] end = end ∷ []
places_of (r ∷ rs) end = offset_of r ∷ places_of rs end

-- the lengths added up
unfoldable pub spans : List (List ℕ) → ℕ
spans [] = 0
spans (r ∷ rs) = span_of r + spans rs

-- the first starts at a place, each other one where the one before ends, and the last ends at a place; none is empty
pub data Chain : List (List ℕ) → ℕ → ℕ → Type 0 where
  none : {a : ℕ} → Chain [] a a
  one : {r : List ℕ} {rs : List (List ℕ)} {a b : ℕ} → offset_of r ≡ a → 1 ≤ span_of r → Chain rs (a + span_of r) b → Chain (r ∷ rs) a b
