-- Ends of a string table that are in order. Assumes nothing.
use Rattle.std.specs.Prelude.{List, ℕ, suc, ◌≤◌, ◌<◌, length, get_or}

-- no end falls
abbrev pub Rising : List ℕ → Type 0
Rising ends = (i : ℕ) → suc i < length ends → get_or ends i 0 ≤ get_or ends (suc i) 0

-- and none passes the bytes
pub record InOrder (bytes ends : List ℕ) : Type 0 where
  pub rising : Rising ends
  pub inside : (i : ℕ) → i < length ends → get_or ends i 0 ≤ length bytes
