-- Document 01's starred trials on its own sheet: one list with a common proof. Assumes nothing.
use mathlib.Core.Path.{◌≡◌, refl}
use mathlib.Core.Bool.{Bool, true}
use mathlib.Core.List.{List, [], ◌∷◌}
use Prim.Native.Nat.{ℕ}
use Rattle.lists.specs.Choice.{both}
use Rattle.lists.specs.Scan.{run, same, opens, all}
use Rattle.lists.specs.Text.{text}
use Rattle.spec_numbers.specs.LittleEndian.{le, le_bytes}
use Rattle.spec_numbers.specs.Parse.{digit_value, digits_value, unsigned_value, parse_u32_in, minus, negated, parse_i32}
use Rattle.spec_sheet.specs.Types.{type_names, type_code_in, type_code, width_of, kind_of, family_of}
use Rattle.spec_sheet.specs.Scan.{after, literal_at, is_name_byte, number_read, number_at, keyed_at, may_be_name, name_at, type_at}
use Rattle.spec_sheet.specs.Line.{with_type, types_from, types_at, head_at, line_types, line_head, line_at, type_row, info_row}
use Rattle.spec_sheet.specs.Sheet.{fill, has_name, find_name, is_missing, may_follow, accepted, on_line, ops_from, sheet_ops, sheet_at, ends_at, sheet_of, above}
use Rattle.spec_sheet.specs.Row.{sum_by}
use Rattle.spec_body.specs.Record.{pairs, join}
use Rattle.spec_body.specs.Decode.{prepend, decode_from}
use Rattle.spec_body.specs.Operation.{decode_outcome, decode}
use Rattle.answers.specs.Outcome.{measured}
use Rattle.answers.proofs.Shown.{room, shown}
use Rattle.spec_inputs.specs.Inputs.{under_sheet, unless_fault, under_table, under_context, under_inputs}
use Rattle.spec_numbers.specs.Double.{bits_of_whole, with_sign, whole_digits, read_whole, read_hex16, read_double, infinity_text, hex_mark}
use Rattle.spec_strings.specs.Utf8.{after_lead, after_next, step, utf8_from}
use Rattle.spec_strings.specs.Table.{is_too_large, well_formed, fault_from, lookup_from}
use Rattle.spec_strings.specs.Escape.{meant, unescape}
use Rattle.spec_hasm.specs.Text.{onto, lines_of, is_white, solid_length, trim}
use Rattle.spec_hasm.specs.Comment.{is_quote, is_comment, outside, inside}
use Rattle.spec_hasm.specs.Split.{split_outside, split_inside, tokens_from, tokens, instruction_name, instruction_operands}
use Rattle.spec_hasm.specs.Line.{is_skipped, is_label, has_hex_prefix, behind_hex_mark, is_offset, behind_offset, statement_in}
use Rattle.spec_hasm.specs.Token.{number_or, found_or, register_value, is_quoted, string_value, offset_or, target_in, is_near, distance_to, token_value}
use Rattle.spec_hasm.specs.Assemble.{is_text_byte, unless_bad_line, on_statement, program_from, on_name, unless_bad_name, found_in, holding, labels_from, unless_found, label_offset, prepend as prepend_bytes, on_value, operands_from, behind, on_operands, bytes_from, assemble_codes, assemble_text}
use Rattle.spec_hasm.specs.Operation.{assemble_outcome, assemble}
use Rattle.spec_hasm.specs.Token as token
use Rattle.spec_inputs.specs.Context.{name_of}
use Rattle.spec_body.specs.Starts.{places_of}
use Rattle.spec_carry.specs.Meaning.{reaches, first_place}
use Rattle.spec_carry.specs.Cases.{unless_case}
use Rattle.spec_carry.specs.Passes.{or_zero, moved_from, near, operand_cases, operands_cases, first_pass, far_cases, second_pass, distance_bits, new_bits, new_operands, new_bytes}
use Rattle.spec_carry.specs.Carry.{sheet_case, input_cases, context_in, largest_in, decode_cases, records_in, carried, carry_cases, carry}

-- the sheet of document 01's job
unfoldable pub sheet : List ℕ
sheet =
    text "version=1\ncount=4\nop=0 name=LoadByte jump=0 types=Reg8,UInt8\nop=1 name=Jmp jump=1 types=Addr8\nop=2 name=LoadText jump=0 types=Reg8,UInt16S\nop=4 name=Ret jump=0 types=Reg8\n"

unfoldable pub decoding : List ℕ → List ℕ
unfolding shown decode under_sheet decode_outcome decode_from prepend pairs sum_by join le width_of kind_of sheet_of ends_at sheet_at sheet_ops ops_from on_line accepted may_follow is_missing find_name has_name fill type_row info_row line_at line_head line_types head_at types_at types_from with_type type_at name_at may_be_name keyed_at number_at number_read is_name_byte literal_at after type_code type_code_in type_names unsigned_value digits_value digit_value run same opens text above sheet
decoding body = shown (decode sheet body) (room 1000 0)

-- the strings of document 01's job
unfoldable bytes : List ℕ
bytes = 97 ∷ 44 ∷ 98 ∷ 195 ∷ 169 ∷ []

unfoldable ends : List ℕ
ends = 3 ∷ 5 ∷ []

-- a text under that sheet and those strings, with no label entry lent
unfoldable pub assembling : List ℕ → List ℕ
unfolding shown sheet bytes ends run all same opens text le_bytes digit_value digits_value unsigned_value parse_u32_in minus negated parse_i32 bits_of_whole with_sign whole_digits read_whole read_hex16 read_double infinity_text hex_mark type_names type_code_in type_code width_of family_of kind_of after literal_at is_name_byte number_read number_at keyed_at may_be_name name_at type_at with_type types_from types_at head_at line_types line_head line_at type_row info_row fill has_name find_name is_missing may_follow accepted on_line ops_from sheet_ops sheet_at ends_at sheet_of above after_lead after_next step utf8_from is_too_large well_formed fault_from lookup_from meant unescape sum_by unless_fault under_table under_context under_inputs onto lines_of is_white solid_length trim is_quote is_comment outside inside split_outside split_inside tokens_from tokens instruction_name instruction_operands is_skipped is_label has_hex_prefix behind_hex_mark is_offset behind_offset statement_in number_or found_or register_value token.unsigned_value is_quoted string_value offset_or target_in is_near distance_to token_value is_text_byte unless_bad_line on_statement program_from on_name unless_bad_name found_in holding labels_from unless_found label_offset prepend_bytes on_value operands_from behind on_operands bytes_from assemble_codes assemble_text assemble_outcome assemble measured
assembling t = shown (assemble sheet bytes ends t) (room 1000 0)

-- a body under that sheet and those strings, carried to a sheet and strings, with four label entries lent
unfoldable pub carrying : List ℕ → List ℕ → List ℕ → List ℕ → List ℕ
unfolding shown sheet bytes ends carry carried input_cases carry_cases decode_cases records_in largest_in context_in sheet_case new_bytes new_operands new_bits distance_bits unless_case or_zero moved_from near operand_cases operands_cases first_pass far_cases second_pass reaches first_place places_of name_of lookup_from is_too_large well_formed fault_from after_lead after_next step utf8_from decode_from prepend pairs sum_by le le_bytes width_of kind_of family_of sheet_of ends_at sheet_at sheet_ops ops_from on_line accepted may_follow is_missing find_name has_name fill type_row info_row line_at line_head line_types head_at types_at types_from with_type type_at name_at may_be_name keyed_at number_at number_read is_name_byte literal_at after type_code type_code_in type_names unsigned_value digits_value digit_value run same opens text above
carrying sheet₂ bytes₂ ends₂ body =
    shown (carry (record { sheet₁ = sheet; bytes₁ = bytes; ends₁ = ends; sheet₂ = sheet₂; bytes₂ = bytes₂; ends₂ = ends₂; body = body })) (room 1000 4)

-- the sheet with LoadText as Reg8,UInt32S
unfoldable pub wider : List ℕ
wider =
    text "version=1\ncount=4\nop=0 name=LoadByte jump=0 types=Reg8,UInt8\nop=1 name=Jmp jump=1 types=Addr8\nop=2 name=LoadText jump=0 types=Reg8,UInt32S\nop=4 name=Ret jump=0 types=Reg8\n"

-- what was computed and what document 01 says
pub record Trial : Type 0 where
  pub computed : List ℕ
  pub expected : List ℕ

unfoldable pub agree : List Trial → Bool
unfolding same
agree [] = true
agree (t ∷ ts) = both (same t.computed t.expected) (agree ts)

unfoldable pub trials : List Trial
trials =
    -- empty body: no instructions
    record { computed = decoding []; expected = 0 ∷ 0 ∷ [] }
    -- body 03: one "<invalid>"
    ∷ record { computed = decoding (3 ∷ []); expected = 0 ∷ 1 ∷ 0 ∷ 3 ∷ 1 ∷ 0 ∷ 0 ∷ 0 ∷ 0 ∷ 0 ∷ 0 ∷ 0 ∷ 0 ∷ 0 ∷ 0 ∷ 0 ∷ 0 ∷ 0 ∷ 0 ∷ 0 ∷ 0 ∷ 0 ∷ [] }
    -- 05: 13
    ∷ record { computed = decoding (5 ∷ []); expected = 1 ∷ 13 ∷ 0 ∷ 0 ∷ [] }
    -- 00 01: 14 at 0
    ∷ record { computed = decoding (0 ∷ 1 ∷ []); expected = 1 ∷ 14 ∷ 0 ∷ 0 ∷ [] }
    -- empty text: empty body
    ∷ record { computed = assembling []; expected = 0 ∷ 0 ∷ [] }
    -- `LoadByte r256, 7`: 00 00 07
    ∷ record { computed = assembling (text "LoadByte r256, 7"); expected = 0 ∷ 3 ∷ 0 ∷ 0 ∷ 7 ∷ [] }
    -- `Jmp L127` alone: 01 7F
    ∷ record { computed = assembling (text "Jmp L127"); expected = 0 ∷ 2 ∷ 1 ∷ 127 ∷ [] }
    -- `Jmp L128`: 8
    ∷ record { computed = assembling (text "Jmp L128"); expected = 1 ∷ 8 ∷ 1 ∷ 1 ∷ [] }
    -- `Ret r+1`: 04 01
    ∷ record { computed = assembling (text "Ret r+1"); expected = 0 ∷ 2 ∷ 4 ∷ 1 ∷ [] }
    -- `LoadText r1, "zz"`: 10
    ∷ record { computed = assembling (text "LoadText r1, \"zz\""); expected = 1 ∷ 10 ∷ 1 ∷ 2 ∷ [] }
    -- the job's body to a sheet with LoadText as Reg8,UInt32S and strings "x", "a,b": 00 01 07 01 08 02 01 01 00 00 00 04 01
    ∷ record { computed = carrying wider (120 ∷ 97 ∷ 44 ∷ 98 ∷ []) (1 ∷ 4 ∷ []) (0 ∷ 1 ∷ 7 ∷ 1 ∷ 6 ∷ 2 ∷ 1 ∷ 0 ∷ 0 ∷ 4 ∷ 1 ∷ []); expected = 0 ∷ 13 ∷ 0 ∷ 1 ∷ 7 ∷ 1 ∷ 8 ∷ 2 ∷ 1 ∷ 1 ∷ 0 ∷ 0 ∷ 0 ∷ 4 ∷ 1 ∷ [] }
    ∷ []

pub starred_trials : agree trials ≡ true
unfolding agree trials same decoding assembling carrying wider text
starred_trials = refl
