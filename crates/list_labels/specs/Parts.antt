-- Numbers parted by a bound. Assumes nothing.
use Rattle.std.specs.Prelude.{List, [], ◌∷◌, ℕ, ◌≤◌, ◌<◌, ltb}
use Rattle.lists.specs.Choice.{pick}

-- the numbers below a bound, in their order
unfoldable pub below : ℕ → List ℕ → List ℕ
below bound [] = []
below bound (x ∷ xs) = pick (ltb x bound) (x ∷ below bound xs) (below bound xs)

-- the numbers that are not
unfoldable pub above : ℕ → List ℕ → List ℕ
above bound [] = []
above bound (x ∷ xs) = pick (ltb x bound) (above bound xs) (x ∷ above bound xs)

-- those of a range
abbrev pub within : ℕ → ℕ → List ℕ → List ℕ
within low high xs = above low (below high xs)

-- every number is from `low` on and below `high`
pub data Between (low high : ℕ) : List ℕ → Type 0 where
  none : Between low high []
  one : {x : ℕ} {xs : List ℕ} → low ≤ x → x < high → Between low high xs → Between low high (x ∷ xs)
