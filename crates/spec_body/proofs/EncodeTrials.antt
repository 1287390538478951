-- Document 01's conversions, encoded by computing over the definitions. Assumes nothing.
use mathlib.Core.Path.{◌≡◌, refl}
use mathlib.Core.List.{List, [], ◌∷◌}
use Prim.Native.Nat.{ℕ}
use lib.ListN.{replicate}
use Rattle.lists.specs.Scan.{run, all, same, opens}
use Rattle.lists.specs.Text.{text}
use Rattle.spec_numbers.specs.LittleEndian.{le_bytes}
use Rattle.spec_numbers.specs.TwosComplement.{extend8}
use Rattle.spec_numbers.specs.Parse.{digit_value, digits_value, unsigned_value}
use Rattle.spec_sheet.specs.Types.{type_names, type_code_in, type_code, width_of, family_of, kind_of}
use Rattle.spec_sheet.specs.Scan.{after, literal_at, is_name_byte, number_read, number_at, keyed_at, may_be_name, name_at, type_at}
use Rattle.spec_sheet.specs.Line.{with_type, types_from, types_at, head_at, line_types, line_head, line_at, type_row, info_row}
use Rattle.spec_sheet.specs.Sheet.{fill, has_name, find_name, is_missing, may_follow, accepted, on_line, ops_from, sheet_ops, sheet_at, ends_at, sheet_of, above}
use Rattle.spec_sheet.specs.Row.{sum_by}
use Rattle.answers.specs.Outcome.{measured}
use Rattle.answers.proofs.Shown.{room, shown}
use Rattle.spec_inputs.specs.Inputs.{under_sheet}
use Rattle.spec_body.specs.Encode.{good_pair, good_pairs, good_shape, encode_unsigned, encode_addr8, encode_signed32, encode_double, encode_operand, prepend_bytes, operand_bytes, encode_operands, append_to, with_operands, encode_record, encode_from}
use Rattle.spec_body.specs.Operation.{encode_outcome, encode}

-- an unsigned type, both Addr types and Imm32
unfoldable sheet : List ℕ
sheet =
    text "version=1\ncount=4\nop=0 name=Number jump=0 types=UInt8\nop=1 name=Near jump=0 types=Addr8\nop=2 name=Far jump=0 types=Addr32\nop=3 name=Signed jump=0 types=Imm32\n"

-- one record of one operand
unfoldable encoding : ℕ → ℕ → ℕ → List ℕ
unfolding shown sheet run all same opens text le_bytes extend8 digit_value digits_value unsigned_value type_names type_code_in type_code width_of family_of kind_of after literal_at is_name_byte number_read number_at keyed_at may_be_name name_at type_at with_type types_from types_at head_at line_types line_head line_at type_row info_row fill has_name find_name is_missing may_follow accepted on_line ops_from sheet_ops sheet_at ends_at sheet_of above sum_by measured under_sheet good_pair good_pairs good_shape encode_unsigned encode_addr8 encode_signed32 encode_double encode_operand prepend_bytes operand_bytes encode_operands append_to with_operands encode_record encode_from encode_outcome encode
encoding opcode kind bits = shown (encode sheet (0 ∷ opcode ∷ 0 ∷ 1 ∷ kind ∷ bits ∷ replicate 14 0)) (room 1000 0)

-- "an I8 never goes into an unsigned type"
signed_byte_unsigned : encoding 0 3 5 ≡ 1 ∷ 15 ∷ 0 ∷ 1 ∷ []
unfolding encoding
signed_byte_unsigned = refl

-- "U8 200 goes into Addr8 as -56", which is the byte 200
byte_200_near : encoding 1 0 200 ≡ 0 ∷ 2 ∷ 1 ∷ 200 ∷ []
unfolding encoding
byte_200_near = refl

-- "a U32 goes into Addr32 by its bits"
word_far : encoding 2 2 0xFFFFFF80 ≡ 0 ∷ 5 ∷ 2 ∷ 0x80 ∷ 0xFF ∷ 0xFF ∷ 0xFF ∷ []
unfolding encoding
word_far = refl

-- an I8 goes into Imm32 with its sign, so that it is decoded as another value of another kind
signed_byte_wide : encoding 3 3 0x80 ≡ 0 ∷ 5 ∷ 3 ∷ 0x80 ∷ 0xFF ∷ 0xFF ∷ 0xFF ∷ []
unfolding encoding
signed_byte_wide = refl
