-- Scans of a list by a test on its elements. Assumes nothing.
use Rattle.std.specs.Prelude.{ℕ, suc, ◌<◌, Bool, true, false, List, [], ◌∷◌, take, drop, get_or, eqb}
use Rattle.lists.specs.Choice.{both}

-- every element is a byte
abbrev pub Bytes : List ℕ → Type 0
Bytes s = (i : ℕ) → get_or s i 0 < 256

-- how many elements in front pass a test
unfoldable pub run : (ℕ → Bool) → List ℕ → ℕ
run p [] = 0
run p (b ∷ s) = elim (p b) [ true ↦ suc (run p s) | false ↦ 0 ]

-- every element passes a test
unfoldable pub all : (ℕ → Bool) → List ℕ → Bool
all p [] = true
all p (b ∷ s) = both (p b) (all p s)

-- two lists have the same elements
unfoldable pub same : List ℕ → List ℕ → Bool
same [] [] = true
same [] (b ∷ t) = false
same (a ∷ s) [] = false
same (a ∷ s) (b ∷ t) = both (eqb a b) (same s t)

-- a list opens with another
unfoldable pub opens : List ℕ → List ℕ → Bool
opens [] s = true
opens (a ∷ p) [] = false
opens (a ∷ p) (b ∷ s) = both (eqb a b) (opens p s)

-- the n elements from `at` on
abbrev pub part : List ℕ → ℕ → ℕ → List ℕ
part s at n = take n (drop at s)
