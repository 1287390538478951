-- The names of opcodes as keys of an index. Assumes nothing.
use Rattle.std.specs.Prelude.{ℕ, List, [], Option, Some, None, eqb, length, get_or}
use Rattle.lists.specs.Choice.{pick}
use Rattle.spec_sheet.specs.Line.{name_size, name_in}
use Rattle.hash_index.specs.Keys.{KeysIndexed}

-- how many buckets the index has, and how many opcodes
abbrev pub name_buckets : ℕ
name_buckets = 256

abbrev pub opcode_count : ℕ
opcode_count = 256

-- the name in a row, and in that of an opcode; a gap has none
unfoldable pub name_in_row : List ℕ → List ℕ → Option (List ℕ)
name_in_row s row = pick (eqb (name_size row) 0) None (Some (name_in s row))

abbrev pub name_of : List ℕ → List (List ℕ) → ℕ → Option (List ℕ)
name_of s rows k = name_in_row s (get_or rows k [])

-- an index of all names
abbrev pub NamesIndexed : List ℕ → List (List ℕ) → List ℕ → Type 0
NamesIndexed s rows index = KeysIndexed (name_of s rows) name_buckets (length rows) index
