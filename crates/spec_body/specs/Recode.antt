-- What encoded records are decoded to again: offsets and lengths anew, the rest as it was written. Assumes nothing.
use Rattle.std.specs.Prelude.{List, [], ◌∷◌, ℕ, zero, suc, ◌+◌, ◌/◌, eqb, length, take, drop, get_or}
use Rattle.lists.specs.Choice.{pick}
use Rattle.spec_body.specs.Encode.{Fitted}
use Rattle.spec_body.specs.Encode.Fitted.{fits, no_fit}
use Rattle.spec_sheet.specs.Types.{kind_of}
use Rattle.spec_sheet.specs.Row.{length_of}
use Rattle.spec_body.specs.Record.{record_words, opcode_of, operands_of, pairs_of}
use Rattle.spec_body.specs.Encode.{encode_operand}

-- the number that an operand was written as
unfoldable pub written_number : Fitted → ℕ
written_number (fits v) = v
written_number no_fit = 0

-- the bits of an operand of a type that was written from a kind and bits; 0 for no operand
unfoldable pub written_bits : ℕ → ℕ → ℕ → ℕ
written_bits code kind bits = pick (eqb code 0) 0 (written_number (encode_operand code kind bits))

-- the pairs, by a row of type codes and the pairs that were written
unfoldable pub recoded_pairs : List ℕ → List ℕ → List ℕ
recoded_pairs [] words = []
recoded_pairs (c ∷ cs) words = kind_of c ∷ written_bits c (get_or words 0 0) (get_or words 1 0) ∷ recoded_pairs cs (drop 2 words)

-- the record at an offset: its opcode and count, and the length that its types have
abbrev pub recoded_record : List ℕ → List ℕ → ℕ → List ℕ
recoded_record row r at = at ∷ opcode_of r ∷ length_of row ∷ operands_of r ∷ recoded_pairs row (pairs_of r)

-- n records, the first at an offset, each behind the one before
unfoldable pub recoded_from : ℕ → List (List ℕ) → List ℕ → ℕ → List (List ℕ)
recoded_from zero types words at = []
recoded_from (suc n) types words at =
    let r = take record_words words in
    let row = get_or types (opcode_of r) [] in
    recoded_record row r at ∷ recoded_from n types (drop record_words words) (at + length_of row)

-- all records of a slice
abbrev pub recoded : List (List ℕ) → List ℕ → List (List ℕ)
recoded types words = recoded_from (length words / record_words) types words 0
