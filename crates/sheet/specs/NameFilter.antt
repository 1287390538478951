-- A filter of names by hash: a name whose hash is not in it is none of those that were added. Assumes nothing.
use Rattle.std.specs.Prelude.{ℕ, ◌/◌, ◌%◌, ◌^◌, ◌<◌, ◌≡◌, Bool, true, List, [], eqb, length, get_or, set}
use Rattle.std.specs.Int.Bits.{bit_or}
use Rattle.spec_sheet.specs.Line.{name_size, name_in}
use Rattle.hash_index.specs.Hash.{hash_of}

-- a number below 16384 by all bytes of a name
abbrev pub name_hash : List ℕ → ℕ
name_hash name = hash_of name % 16384

-- its 16384 bits are those of 256 numbers
unfoldable pub in_filter : List ℕ → ℕ → Bool
in_filter filter h = eqb (get_or filter (h / 64) 0 / 2 ^ (h % 64) % 2) 1

unfoldable pub with_hash : List ℕ → ℕ → List ℕ
with_hash filter h = set filter (h / 64) (bit_or (get_or filter (h / 64) 0) (2 ^ (h % 64)))

-- the hash of every name in the rows of a table is in the filter
pub record Filtered (s filter : List ℕ) (rows : List (List ℕ)) : Type 0 where
  pub size : length filter ≡ 256
  pub set_for : (k : ℕ) → 0 < name_size (get_or rows k []) → in_filter filter (name_hash (name_in s (get_or rows k []))) ≡ true
