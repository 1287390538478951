-- The string table: bytes and u32 ends (document 01, 'Strings'). Assumes nothing.
use Rattle.std.specs.Prelude.{ℕ, suc, ◌-◌, Bool, List, [], ◌∷◌, leb, ltb, length, get_or}
use Rattle.limits.specs.Limits.{string_limit, string_bytes_limit}
use Rattle.lists.specs.Choice.{pick, both, either}
use Rattle.lists.specs.Scan.{same, part}
use Rattle.lists.specs.Found.{Found}
use Rattle.lists.specs.Found.Found.{found, missing}
use Rattle.spec_strings.specs.Utf8.{is_utf8}

-- "more than 65,536 strings or 1,048,576 string bytes" is 18
unfoldable pub is_too_large : List ℕ → List ℕ → Bool
is_too_large bytes ends = either (ltb string_limit (length ends)) (ltb string_bytes_limit (length bytes))

-- where an entry starts and ends: each at the end of the one before it
abbrev pub entry_start : List ℕ → ℕ → ℕ
entry_start ends id = get_or (0 ∷ ends) id 0

abbrev pub entry_end : List ℕ → ℕ → ℕ
entry_end ends id = get_or ends id 0

-- the text of an id below the count
abbrev pub text_of : List ℕ → List ℕ → ℕ → List ℕ
text_of bytes ends id = part bytes (entry_start ends id) (entry_end ends id - entry_start ends id)

-- an entry from `start` to `end`: the ends do not fall, do not pass the bytes, and the entry is UTF-8
unfoldable pub well_formed : List ℕ → ℕ → ℕ → Bool
well_formed bytes start end =
    both (leb start end) (both (leb end (length bytes)) (is_utf8 (part bytes start (end - start))))

-- the first entry that is refused with 17, by entry
unfoldable pub fault_from : List ℕ → ℕ → ℕ → List ℕ → Found
fault_from bytes start id [] = missing
fault_from bytes start id (e ∷ es) =
    let rest = fault_from bytes e (suc id) es in
    pick (well_formed bytes start e) rest (found id)

abbrev pub fault : List ℕ → List ℕ → Found
fault bytes ends = fault_from bytes 0 0 ends

-- "Lookup gives the first id whose text is equal"
unfoldable pub lookup_from : List ℕ → List ℕ → ℕ → ℕ → List ℕ → Found
lookup_from text bytes start id [] = missing
lookup_from text bytes start id (e ∷ es) =
    let rest = lookup_from text bytes e (suc id) es in
    pick (same (part bytes start (e - start)) text) (found id) rest

abbrev pub lookup : List ℕ → List ℕ → List ℕ → Found
lookup text bytes ends = lookup_from text bytes 0 0 ends
