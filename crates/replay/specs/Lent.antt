-- The space lent to a call, and what is recorded of it. Assumes nothing.
use Rattle.std.specs.Prelude.{Bool, true, List, [], ◌∷◌, ℕ, eqb, length, drop, get_or}
use Rattle.lists.specs.Choice.{pick, both}
use Rattle.lists.specs.Scan.{all, opens}

-- every element is b
abbrev pub all_are : ℕ → List ℕ → Bool
all_are b s = all (λ x. eqb x b) s

-- the lent bytes open with the expected ones, and behind those each is still 0xA5 (number 0), or all are 0 (a refusal)
unfoldable pub left_as : List ℕ → List ℕ → ℕ → Bool
left_as lent expected number =
    both (opens expected lent)
    (pick (eqb number 0) (all_are 0xA5 (drop (length expected) lent)) (all_are 0 lent))

-- the three words of a label entry are 0
abbrev pub is_clear : List ℕ → Bool
is_clear entry = both (eqb (get_or entry 0 0) 0) (both (eqb (get_or entry 1 0) 0) (eqb (get_or entry 2 0) 0))

-- "Label entries .. have to be zero in any case"
unfoldable pub are_clear : List (List ℕ) → Bool
are_clear [] = true
are_clear (entry ∷ entries) = both (is_clear entry) (are_clear entries)
