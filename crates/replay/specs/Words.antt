-- Numbers of w little-endian bytes each, one behind the other. Assumes nothing.
use Rattle.std.specs.Prelude.{List, [], ◌∷◌, ◌++◌, ℕ, zero, suc, ◌/◌, min, length, take, drop}
use Rattle.spec_numbers.specs.LittleEndian.{le, le_bytes}

-- the first n numbers of a list of bytes
unfoldable pub numbers_in : ℕ → ℕ → List ℕ → List ℕ
numbers_in w zero s = []
numbers_in w (suc n) s = le (take w s) ∷ numbers_in w n (drop w s)

-- numbers set to those of the bytes s, as far as both go; those behind them stay
unfoldable pub numbers_over : ℕ → List ℕ → List ℕ → List ℕ
numbers_over w s old = let n = min (length old) (length s / w) in numbers_in w n s ++ drop n old

-- the bytes of each number
unfoldable pub bytes_of : ℕ → List ℕ → List ℕ
bytes_of w [] = []
bytes_of w (v ∷ vs) = le_bytes w v ++ bytes_of w vs
