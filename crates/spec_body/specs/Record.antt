-- The record of a decoded instruction (document 01, 'Decoder and encoder'). Assumes nothing.
use Rattle.std.specs.Prelude.{List, [], ◌∷◌, ◌++◌, ℕ, ◌+◌, get_or, drop}
use Rattle.lists.specs.Scan.{part}
use Rattle.spec_numbers.specs.LittleEndian.{le}
use Rattle.spec_sheet.specs.Types.{width_of, kind_of}
use Rattle.spec_sheet.specs.Row.{length_of, count_of}

-- "eight pairs of kind and bits; unused words 0", the first operand at p
unfoldable pub pairs : List ℕ → List ℕ → ℕ → List ℕ
pairs [] s p = []
pairs (c ∷ cs) s p = kind_of c ∷ le (part s p (width_of c)) ∷ pairs cs s (p + width_of c)

-- "offset, opcode, length, operand count, then eight pairs", of the instruction at `at` whose operands have the row's types
abbrev pub record_of : List ℕ → List ℕ → ℕ → List ℕ
record_of row s at = at ∷ get_or s at 0 ∷ length_of row ∷ count_of row ∷ pairs row s (at + 1)

-- the words of a record by their names, and its pairs of kind and bits
abbrev pub offset_of : List ℕ → ℕ
offset_of r = get_or r 0 0

abbrev pub opcode_of : List ℕ → ℕ
opcode_of r = get_or r 1 0

abbrev pub span_of : List ℕ → ℕ
span_of r = get_or r 2 0

abbrev pub operands_of : List ℕ → ℕ
operands_of r = get_or r 3 0

abbrev pub pairs_of : List ℕ → List ℕ
pairs_of r = drop 4 r

-- records one after the other, as they are lent
unfoldable pub join : List (List ℕ) → List ℕ
join [] = []
join (r ∷ rs) = r ++ join rs

-- "A record is 20 u64 words"
abbrev pub record_words : ℕ
record_words = 20
