-- Records as decoding makes them, with at most four operands: each operand has the kind of its type, and its bytes are its
-- bits. Assumes nothing.
use Rattle.std.specs.Prelude.{◌≡◌, Bool, true, List, [], ◌∷◌, ◌++◌, ℕ, ◌-◌, ◌^◌, ◌≤◌, eqb, leb, ltb, take, drop, get_or}
use Rattle.lists.specs.Choice.{pick, both}
use Rattle.lists.specs.Scan.{all}
use Rattle.spec_numbers.specs.LittleEndian.{le_bytes}
use Rattle.spec_sheet.specs.Types.{widths, width_of, kinds, kind_of}
use Rattle.spec_sheet.specs.Row.{one_for, count_of}

-- by type code: the kinds, the largest bits and the bytes
abbrev pub code_table : List (List ℕ)
code_table =
    kinds
    ∷ (0 ∷ 0xff ∷ 0xffffffff ∷ 0xff ∷ 0xffff ∷ 0xffffffff ∷ 0xff ∷ 0xffff ∷ 0xffffffff ∷ 0xff ∷ 0xffffffff ∷ 0xffffffff ∷ 0xffffffffffffffff ∷ [])
    ∷ widths
    ∷ []

-- the first `count` codes are types, and the others are none
unfoldable pub in_order : List ℕ → ℕ → Bool
in_order [] count = true
in_order (c ∷ cs) count = both (eqb (one_for c) (one_for count)) (in_order cs (count - 1))

-- how many operands a row's canonical records have, or 9 where it has none
unfoldable pub canonical_count : List ℕ → ℕ
canonical_count row = pick (both (leb (count_of row) 4) (in_order row (count_of row))) (count_of row) 9

-- those of the rows up to `last`
abbrev pub Counted : List (List ℕ) → ℕ → List ℕ → Type 0
Counted types last counts = (op : ℕ) → op ≤ last → get_or counts op 0 ≡ canonical_count (get_or types op [])

-- a pair of a type's kind and bytes, or zeros where there is no type
abbrev pub canonical_pair : ℕ → ℕ → ℕ → Bool
canonical_pair code kind bits = both (leb code 12) (both (eqb kind (kind_of code)) (ltb bits (256 ^ width_of code)))

-- the pairs of type codes
unfoldable pub canonical_pairs : List ℕ → List ℕ → Bool
canonical_pairs [] words = true
canonical_pairs (c ∷ cs) words = both (canonical_pair c (get_or words 0 0) (get_or words 1 0)) (canonical_pairs cs (drop 2 words))

-- and their bytes
unfoldable pub canonical_bytes : List ℕ → List ℕ → List ℕ
canonical_bytes [] words = []
canonical_bytes (c ∷ cs) words = le_bytes (width_of c) (get_or words 1 0) ++ canonical_bytes cs (drop 2 words)

abbrev pub all_zero : List ℕ → Bool
all_zero s = all (λ (n : ℕ). eqb n 0) s

-- the record r under the rows of a sheet
unfoldable pub canonical_record : List (List ℕ) → ℕ → List ℕ → Bool
canonical_record types last r =
    let row = get_or types (get_or r 1 0) [] in
    both (leb (get_or r 1 0) last) (both (leb (get_or r 3 0) 4) (both (eqb (get_or r 3 0) (canonical_count row)) (both (all_zero (drop 12 r)) (canonical_pairs (take 4 row) (drop 4 r)))))
