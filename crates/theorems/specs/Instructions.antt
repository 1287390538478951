-- "`parse_hasm_function`, then `encode_function_body`": the instructions of a text as records, and their bytes (document 01,
-- 'Assembler'). Assumes nothing.
use Rattle.std.specs.Prelude.{List, [], ◌∷◌, ◌++◌, ℕ, suc, ◌+◌, eqb, get_or, drop}
use Rattle.lists.specs.Choice.{pick}
use Rattle.lists.specs.Found.{Found}
use Rattle.answers.specs.declared.refusal.Refusal.{Refusal}
use Rattle.answers.specs.declared.refusal.Refusal.TheVariants.{BadOperand}
use Rattle.answers.specs.declared.refusal.OperandFault.{OperandFault}
use Rattle.spec_numbers.specs.LittleEndian.{le, le_bytes}
use Rattle.spec_sheet.specs.Types.{width_of, kind_of}
use Rattle.spec_sheet.specs.Row.{length_of, count_of}
use Rattle.spec_inputs.specs.Context.{Context}
use Rattle.spec_body.specs.Record.{join}
use Rattle.spec_body.specs.Encode.{Encoded, encode_records}
use Rattle.spec_body.specs.Encode.Encoded.{encoded, not_encoded}
use Rattle.spec_hasm.specs.Token.{Value, token_value}
use Rattle.spec_hasm.specs.Token.Value.{value, refused}
use Rattle.spec_hasm.specs.Assemble.{Assembled, Code, row_of, opcode_in, size_in}
use Rattle.spec_hasm.specs.Assemble.Assembled.{assembled, not_assembled}

-- an instruction's pairs of kind and bits, or what is wrong with which operand
pub data Pairs : Type 0 where
  pairs : List ℕ → Pairs
  bad_operand : OperandFault → ℕ → Pairs

unfoldable pub with_pair : ℕ → ℕ → Pairs → Pairs
with_pair kind bits (pairs rest) = pairs (kind ∷ bits ∷ rest)
with_pair kind bits (bad_operand f n) = bad_operand f n

-- "Narrow registers, numbers and string ids keep their low bits": the number of as many bytes as the type has
abbrev pub low_bits : ℕ → ℕ → ℕ
low_bits code bits = le (le_bytes (width_of code) bits)

-- a token's value has its type's kind
unfoldable pub on_pair : ℕ → ℕ → Value → Pairs → Pairs
on_pair code n (value bits) rest = with_pair (kind_of code) (low_bits code bits) rest
on_pair code n (refused f) rest = bad_operand f n

-- the operands from number n on of the instruction at `at`; code 0 is no operand: "unused words 0"
unfoldable pub pairs_from : Context → (List ℕ → Found) → ℕ → ℕ → List ℕ → List (List ℕ) → Pairs
pairs_from e labels at n [] ts = pairs []
pairs_from e labels at n (code ∷ codes) ts =
    let rest = pairs_from e labels at (suc n) codes (drop 1 ts) in
    pick (eqb code 0) (with_pair 0 0 rest) (on_pair code n (token_value e.bytes e.ends labels at code (get_or ts 0 [])) rest)

-- the records of a text, or the refusal of an operand at its line
pub data Parsed : Type 0 where
  parsed : List (List ℕ) → Parsed
  not_parsed : Refusal → Parsed

unfoldable pub with_record : List ℕ → Parsed → Parsed
with_record r (parsed rs) = parsed (r ∷ rs)
with_record r (not_parsed x) = not_parsed x

unfoldable pub on_pairs : List ℕ → ℕ → Pairs → Parsed → Parsed
on_pairs head line (pairs ps) rest = with_record (head ++ ps) rest
on_pairs head line (bad_operand f n) rest = not_parsed (BadOperand f line n)

-- `parse_hasm_function` of instructions whose names the sheet has, the first of them at `at`
unfoldable pub records_from : Context → (List ℕ → Found) → ℕ → List Code → Parsed
records_from e labels at [] = parsed []
records_from e labels at (c ∷ cs) =
    let row = row_of e (opcode_in e c) in
    let head = at ∷ opcode_in e c ∷ length_of row ∷ count_of row ∷ [] in
    on_pairs head c.line (pairs_from e labels at 1 row c.operands) (records_from e labels (at + size_in e c) cs)

-- `encode_function_body` of what was parsed
unfoldable pub as_assembled : Encoded → Assembled
as_assembled (encoded bs) = assembled bs
as_assembled (not_encoded x) = not_assembled x

unfoldable pub then_encoded : List (List ℕ) → ℕ → Parsed → Assembled
then_encoded types last (parsed rs) = as_assembled (encode_records types last (join rs))
then_encoded types last (not_parsed x) = not_assembled x
