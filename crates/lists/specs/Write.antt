-- What a writer leaves that writes as much as fits and counts the rest. Assumes nothing.
use Rattle.std.specs.Prelude.{◌≡◌, ℕ, ◌+◌, ◌≤◌, min, List, ◌++◌, length}
use Rattle.std.proofs.lemmas.List.Edits.{sets}

-- the largest usize, at which a count stops
abbrev pub top : ℕ
top = 18446744073709551615

-- `out` with the elements of `s` from index `at` on, as far as they fit
unfoldable pub put : List ℕ → ℕ → List ℕ → List ℕ
put out at s = sets out at s

-- `s` was written at `at`: the buffer was `out` and is `out'`, and the next position is `r`
pub record Put (out : List ℕ) (at : ℕ) (s : List ℕ) (out' : List ℕ) (r : ℕ) : Type 0 where
  pub small : length out ≤ top
  pub next : r ≡ min (at + length s) top
  pub bytes : out' ≡ put out at s

-- `s` was written at `at`, and at most `spare` elements behind it, which the next to be written go over: the buffer was `out` and is
-- `out'`, and the next position is `r`
pub record Ahead (out : List ℕ) (at : ℕ) (s : List ℕ) (spare : ℕ) (out' : List ℕ) (r : ℕ) : Type 0 where
  pub small : length out ≤ top
  pub next : r ≡ min (at + length s) top
  pub behind : List ℕ
  pub few : length behind ≤ spare
  pub bytes : out' ≡ put out at (s ++ behind)

-- the same by words of eight, the last of which may reach behind the piece
abbrev pub ByWords : List ℕ → ℕ → List ℕ → List ℕ → ℕ → Type 0
ByWords out at s out' r = Ahead out at s 8 out' r
