-- The record at a place, and what is written of a canonical one. Assumes nothing.
use Rattle.std.specs.Prelude.{◌≡◌, List, [], ◌∷◌, ℕ, ◌+◌, length, take, drop, get_or}
use Rattle.lists.specs.Scan.{part}
use Rattle.lists.specs.Write.{Ahead}
use Rattle.encode.specs.Canonical.{canonical_bytes}

-- the 20 words of the record at a place, and its pairs
abbrev pub record_at : List ℕ → ℕ → List ℕ
record_at words at = part words at 20

abbrev pub pairs_at : List ℕ → ℕ → List ℕ
pairs_at words at = drop 4 (record_at words at)

-- the canonical record at a place was written so, under its row of eight types
abbrev pub CanonicalPut : List (List ℕ) → List ℕ → ℕ → List ℕ → ℕ → List ℕ → ℕ → Type 0
CanonicalPut types words place out at out' r =
    let row = get_or types (get_or words (place + 1) 0) [] in
    (Ahead out at (get_or words (place + 1) 0 ∷ canonical_bytes (take 4 row) (pairs_at words place)) 8 out' r) × (length row ≡ 8)
