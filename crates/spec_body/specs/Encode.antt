-- Encoding records: `encode_instruction` and `write_operand` (document 01, 'Decoder and encoder'). Assumes nothing.
use Rattle.std.specs.Prelude.{Bool, true, List, [], ◌∷◌, ◌++◌, ℕ, zero, suc, ◌+◌, ◌-◌, ◌*◌, ◌/◌, ◌%◌, ◌^◌, eqb, leb, ltb, length, take, drop, get_or}
use Rattle.lists.specs.Choice.{pick, both, either}
use Rattle.answers.specs.declared.refusal.Refusal.{Refusal}
use Rattle.answers.specs.declared.refusal.Refusal.TheVariants.{BadOperand, Beyond, OperandCount, BadRecord}
use Rattle.answers.specs.declared.refusal.OperandFault.TheVariants.{Misfit}
use Rattle.spec_numbers.specs.LittleEndian.{le_bytes}
use Rattle.spec_numbers.specs.TwosComplement.{extend8}
use Rattle.spec_sheet.specs.Types.{width_of, family_of, string_family, addr8, double}
use Rattle.spec_sheet.specs.Row.{count_of}
use Rattle.spec_body.specs.Record.{opcode_of, operands_of, pairs_of, record_words}

-- the bytes of a kind: U8, U16, U32, I8, I32, F64
abbrev pub kind_widths : List ℕ
kind_widths = 1 ∷ 2 ∷ 4 ∷ 1 ∷ 4 ∷ 8 ∷ []

-- an operand's pair: not "a kind exceeds 5, bits exceed the kind"
unfoldable pub good_pair : ℕ → ℕ → Bool
good_pair kind bits = both (leb kind 5) (ltb bits (256 ^ get_or kind_widths kind 0))

-- the pairs of a record, of which `count` are used: not "an unused word isn't 0"
unfoldable pub good_pairs : ℕ → ℕ → List ℕ → Bool
good_pairs zero count words = true
good_pairs (suc n) count words =
    both (pick (eqb count 0) (both (eqb (get_or words 0 0) 0) (eqb (get_or words 1 0) 0)) (good_pair (get_or words 0 0) (get_or words 1 0)))
    (good_pairs n (count - 1) (drop 2 words))

-- a record's shape: "bad if its count exceeds 8, a kind exceeds 5, bits exceed the kind or an unused word isn't 0"
unfoldable pub good_shape : List ℕ → Bool
good_shape r = both (leb (operands_of r) 8) (good_pairs 8 (operands_of r) (pairs_of r))

-- an operand's little-endian number, or that the value doesn't fit its type
pub data Fitted : Type 0 where
  fits : ℕ → Fitted
  no_fit : Fitted

-- `write_operand`: the number of an operand of a type, from a value's kind and bits.
-- An unsigned value goes into a register, number or string id that is wide enough
unfoldable pub encode_unsigned : ℕ → ℕ → ℕ → Fitted
encode_unsigned code kind bits = pick (both (leb kind 2) (ltb bits (256 ^ width_of code))) (fits bits) no_fit

-- into Addr8: an I8, an I32 from -128 to 127, a U8 "by its bits"
unfoldable pub encode_addr8 : ℕ → ℕ → Fitted
encode_addr8 kind bits =
    pick (either (eqb kind 3) (eqb kind 0)) (fits bits)
    (pick (both (eqb kind 4) (either (ltb bits 128) (leb (2 ^ 32 - 128) bits))) (fits (bits % 256)) no_fit)

-- into Addr32 and Imm32: an I32, an I8 with its sign, any unsigned value by its bits
unfoldable pub encode_signed32 : ℕ → ℕ → Fitted
encode_signed32 kind bits = pick (eqb kind 3) (fits (extend8 bits)) (pick (leb kind 4) (fits bits) no_fit)

-- into Double: an F64
unfoldable pub encode_double : ℕ → ℕ → Fitted
encode_double kind bits = pick (eqb kind 5) (fits bits) no_fit

unfoldable pub encode_operand : ℕ → ℕ → ℕ → Fitted
encode_operand code kind bits =
    pick (leb (family_of code) string_family) (encode_unsigned code kind bits)
    (pick (eqb code addr8) (encode_addr8 kind bits)
    (pick (eqb code double) (encode_double kind bits) (encode_signed32 kind bits)))

-- the bytes of a record's operands, or the first that doesn't fit, counted from n
pub data Operands : Type 0 where
  bytes : List ℕ → Operands
  misfit : ℕ → Operands

unfoldable pub prepend_bytes : List ℕ → Operands → Operands
prepend_bytes b (bytes bs) = bytes (b ++ bs)
prepend_bytes b (misfit n) = misfit n

unfoldable pub operand_bytes : ℕ → Fitted → Operands → ℕ → Operands
operand_bytes width (fits v) rest n = prepend_bytes (le_bytes width v) rest
operand_bytes width no_fit rest n = misfit n

-- the operands of a row of type codes, whose pairs are `words`, the first counted as n
unfoldable pub encode_operands : List ℕ → List ℕ → ℕ → Operands
encode_operands [] words n = bytes []
encode_operands (c ∷ cs) words n =
    let rest = encode_operands cs (drop 2 words) (n + 1) in
    pick (eqb c 0) (bytes []) (operand_bytes (width_of c) (encode_operand c (get_or words 0 0) (get_or words 1 0)) rest n)

-- the bytes of records, or the first refusal, at a record's index
pub data Encoded : Type 0 where
  encoded : List ℕ → Encoded
  not_encoded : Refusal → Encoded

unfoldable pub append_to : List ℕ → Encoded → Encoded
append_to b (encoded bs) = encoded (b ++ bs)
append_to b (not_encoded x) = not_encoded x

unfoldable pub with_operands : ℕ → ℕ → Operands → Encoded → Encoded
with_operands opcode i (bytes bs) rest = append_to (opcode ∷ bs) rest
with_operands opcode i (misfit q) rest = not_encoded (BadOperand Misfit i q)

-- the record i, which is r, and those behind it: "by record 15 for its shape, 13, 5, then 15 by operand"
unfoldable pub encode_record : List (List ℕ) → ℕ → ℕ → List ℕ → Encoded → Encoded
encode_record types last i r rest =
    let row = get_or types (opcode_of r) [] in
    let operands = with_operands (opcode_of r) i (encode_operands row (pairs_of r) 1) rest in
    pick (good_shape r)
    (pick (ltb last (opcode_of r)) (not_encoded (Beyond i))
    (pick (eqb (operands_of r) (count_of row)) operands (not_encoded (OperandCount i))))
    (not_encoded (BadRecord i))

-- the records from index i on, at most f of them; "a slice that ends inside a record is 15 at that index"
unfoldable pub encode_from : ℕ → List (List ℕ) → ℕ → List ℕ → ℕ → Encoded
encode_from zero types last words i = encoded []
encode_from (suc f) types last words i =
    let behind = drop (record_words * i) words in
    let rest = encode_from f types last words (i + 1) in
    let this = encode_record types last i (take record_words behind) rest in
    pick (eqb (length behind) 0) (encoded []) (pick (ltb (length behind) record_words) (not_encoded (BadRecord i)) this)

-- all records of a slice: each whole one has 20 words, and one more may be cut
abbrev pub encode_records : List (List ℕ) → ℕ → List ℕ → Encoded
encode_records types last words = encode_from (length words / record_words + 1) types last words 0
