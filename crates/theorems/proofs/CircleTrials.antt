-- Which worked bodies round-trip, by computing over the definitions. Assumes nothing.
use mathlib.Core.Path.{◌≡◌, refl}
use mathlib.Core.Bool.{Bool, true, false}
use mathlib.Core.List.{List, [], ◌∷◌}
use Prim.Native.Nat.{ℕ}
use Rattle.lists.specs.Scan.{run, all, same, opens}
use Rattle.lists.specs.Text.{text}
use Rattle.spec_numbers.specs.LittleEndian.{le, le_bytes}
use Rattle.spec_numbers.specs.TwosComplement.{extend8}
use Rattle.spec_numbers.specs.Parse.{digit_value, digits_value, unsigned_value, parse_u32_in, minus, negated, parse_i32}
use Rattle.spec_sheet.specs.Types.{type_names, type_code_in, type_code, width_of, family_of, kind_of}
use Rattle.spec_sheet.specs.Scan.{after, literal_at, is_name_byte, number_read, number_at, keyed_at, may_be_name, name_at, type_at}
use Rattle.spec_sheet.specs.Line.{with_type, types_from, types_at, head_at, line_types, line_head, line_at, type_row, info_row}
use Rattle.spec_sheet.specs.Sheet.{fill, has_name, find_name, is_missing, may_follow, accepted, on_line, ops_from, sheet_ops, sheet_at, ends_at, sheet_of, above}
use Rattle.spec_strings.specs.Table.{lookup_from, is_too_large, well_formed, fault_from}
use Rattle.spec_strings.specs.Plain.{plain_byte, plain}
use Rattle.spec_sheet.specs.Row.{sum_by}
use Rattle.spec_body.specs.Record.{pairs}
use Rattle.spec_body.specs.Decode.{prepend, decode_from}
use Rattle.spec_body.specs.Starts.{places_of}
use Rattle.spec_inputs.specs.Context.{name_of, is_jump}
use Rattle.spec_listing.specs.Operand.{distance_of, target_of, string_text, operand_text, operand_texts}
use Rattle.spec_listing.specs.Labels.{among, ends_flow, targets, labels_of, label_offsets, different}
use Rattle.theorems.specs.Premises.{default, answers, good_string, good_operand, good_operands, good_record, good_records, round_trips, decoded_back, sheet_back, body_round_trips}
use Rattle.spec_numbers.specs.Double.{bits_of_whole, with_sign, whole_digits, read_whole, read_hex16, read_double, infinity_text, hex_mark}
use Rattle.spec_strings.specs.Utf8.{after_lead, after_next, step, utf8_from, lead_bits, bits_after, chars_from}
use Rattle.spec_strings.specs.Escape.{meant, unescape, unicode, escape, escape_all, escape_text, quoted}
use Rattle.answers.specs.Outcome.{measured}
use Rattle.answers.proofs.Shown.{room, output_of, shown}
use Rattle.spec_listing.specs.Operation.{list_outcome, list, list_module}
use Rattle.spec_inputs.specs.Inputs.{unless_fault, under_table, under_context, under_inputs}
use Rattle.spec_hasm.specs.Text.{onto, lines_of, is_white, solid_length, trim}
use Rattle.spec_hasm.specs.Comment.{is_quote, is_comment, outside, inside}
use Rattle.spec_hasm.specs.Split.{split_outside, split_inside, tokens_from, tokens, instruction_name, instruction_operands}
use Rattle.spec_hasm.specs.Line.{is_skipped, is_label, has_hex_prefix, behind_hex_mark, is_offset, behind_offset, statement_in}
use Rattle.spec_hasm.specs.Token.{number_or, found_or, register_value, is_quoted, string_value, offset_or, target_in, is_near, distance_to, token_value}
use Rattle.spec_hasm.specs.Assemble.{is_text_byte, unless_bad_line, on_statement, program_from, on_name, unless_bad_name, found_in, holding, labels_from, unless_found, label_offset, prepend as prependText, on_value, operands_from, behind, on_operands, bytes_from, assemble_codes, assemble_text}
use Rattle.spec_hasm.specs.Operation.{assemble_outcome, assemble}
use Rattle.spec_numbers.specs.Print.{digit, digits, padded, decimal, signed_decimal, hex_lower, hex_lower4, hex_upper, hex_upper4}
use Rattle.spec_body.specs.Function.{in_area}
use Rattle.spec_listing.specs.Line.{offset_text, instruction_text}
use Rattle.spec_listing.specs.Listing.{label_line, label_text, instruction_line, long_line, unless_long, list_decoded, append}
use Rattle.spec_listing.specs.Listing.{listed_text as linesOfListed, list_entries}
use Rattle.spec_listing.specs.Module.{function_name, banner, list_function_in, list_functions_from}
use Rattle.spec_hasm.specs.Token as token

-- the sheet of document 01's job
unfoldable sheet : List ℕ
sheet =
    text "version=1\ncount=4\nop=0 name=LoadByte jump=0 types=Reg8,UInt8\nop=1 name=Jmp jump=1 types=Addr8\nop=2 name=LoadText jump=0 types=Reg8,UInt16S\nop=4 name=Ret jump=0 types=Reg8\n"

-- a body under that sheet and a string table
unfoldable comes : List ℕ → List ℕ → List ℕ → Bool
unfolding sheet run all same opens text le extend8 digit_value digits_value unsigned_value type_names type_code_in type_code width_of family_of kind_of after literal_at is_name_byte number_read number_at keyed_at may_be_name name_at type_at with_type types_from types_at head_at line_types line_head line_at type_row info_row fill has_name find_name is_missing may_follow accepted on_line ops_from sheet_ops sheet_at ends_at sheet_of above lookup_from plain_byte plain sum_by pairs prepend decode_from name_of distance_of target_of among answers good_string good_operand good_operands good_record good_records places_of round_trips decoded_back sheet_back body_round_trips
comes bytes ends body = body_round_trips sheet bytes ends body

-- the job's strings
bytes : List ℕ
bytes = 97 ∷ 44 ∷ 98 ∷ 195 ∷ 169 ∷ []

ends : List ℕ
ends = 3 ∷ 5 ∷ []

-- the job's body round-trips
job_comes : comes bytes ends (0 ∷ 1 ∷ 7 ∷ 1 ∷ 6 ∷ 2 ∷ 1 ∷ 0 ∷ 0 ∷ 4 ∷ 1 ∷ []) ≡ true
unfolding comes bytes ends
job_comes = refl

-- "*empty body: no instructions"
empty_comes : comes bytes ends [] ≡ true
unfolding comes bytes ends
empty_comes = refl

-- "<invalid>" does not, nor does a text that is not plain
gap_not : comes bytes ends (3 ∷ []) ≡ false
unfolding comes bytes ends
gap_not = refl

not_plain : comes bytes ends (2 ∷ 1 ∷ 1 ∷ 0 ∷ []) ≡ false
unfolding comes bytes ends
not_plain = refl

-- an id without a text does not, nor one whose text an id before it has
no_text : comes bytes ends (2 ∷ 1 ∷ 2 ∷ 0 ∷ []) ≡ false
unfolding comes bytes ends
no_text = refl

not_first : comes (97 ∷ 97 ∷ []) (1 ∷ 2 ∷ []) (2 ∷ 1 ∷ 1 ∷ 0 ∷ []) ≡ false
unfolding comes
not_first = refl

-- an address round-trips at the end of the body, but not inside of an instruction or in front of the body
to_end : comes bytes ends (1 ∷ 2 ∷ []) ≡ true
unfolding comes bytes ends
to_end = refl

to_inside : comes bytes ends (1 ∷ 1 ∷ []) ≡ false
unfolding comes bytes ends
to_inside = refl

to_front : comes bytes ends (1 ∷ 255 ∷ []) ≡ false
unfolding comes bytes ends
to_front = refl

-- what a body's default listing is assembled to: length and bytes behind a 0, or number, line and operand of a refusal behind a 1
unfoldable again : List ℕ → List ℕ → List ℕ → List ℕ
unfolding output_of shown sheet bytes ends run all same opens text le_bytes digit_value digits_value unsigned_value parse_u32_in minus negated parse_i32 bits_of_whole with_sign whole_digits read_whole read_hex16 read_double infinity_text hex_mark type_names type_code_in type_code width_of family_of kind_of after literal_at is_name_byte number_read number_at keyed_at may_be_name name_at type_at with_type types_from types_at head_at line_types line_head line_at type_row info_row fill has_name find_name is_missing may_follow accepted on_line ops_from sheet_ops sheet_at ends_at sheet_of above after_lead after_next step utf8_from is_too_large well_formed fault_from lookup_from meant unescape sum_by unless_fault under_table under_context under_inputs onto lines_of is_white solid_length trim is_quote is_comment outside inside split_outside split_inside tokens_from tokens instruction_name instruction_operands is_skipped is_label has_hex_prefix behind_hex_mark is_offset behind_offset statement_in number_or found_or register_value token.unsigned_value is_quoted string_value offset_or target_in is_near distance_to token_value is_text_byte unless_bad_line on_statement program_from on_name unless_bad_name found_in holding labels_from unless_found label_offset prependText on_value operands_from behind on_operands bytes_from assemble_codes assemble_text assemble_outcome assemble list list_module hex_upper hex_upper4 list_outcome lead_bits bits_after chars_from unicode escape escape_all escape_text quoted decode_from prepend pairs le extend8 digit digits padded decimal signed_decimal hex_lower hex_lower4 in_area name_of is_jump distance_of target_of string_text operand_text operand_texts offset_text instruction_text ends_flow targets labels_of label_offsets among different label_line label_text instruction_line linesOfListed long_line list_entries unless_long list_decoded append function_name banner list_function_in list_functions_from measured
again bytes ends body = shown (assemble sheet bytes ends (output_of (list default sheet bytes ends body))) (room 1000 4)

-- without its premise a body does not round-trip: no sheet has the name "<invalid>"; `\u00E9` is another text; the text's first id
-- is another; `L-1` is no address
gap_again : again bytes ends (3 ∷ []) ≡ 1 ∷ 4 ∷ 1 ∷ 0 ∷ []
unfolding again bytes ends
gap_again = refl

not_plain_again : again bytes ends (2 ∷ 1 ∷ 1 ∷ 0 ∷ []) ≡ 1 ∷ 10 ∷ 1 ∷ 2 ∷ []
unfolding again bytes ends
not_plain_again = refl

not_first_again : again (97 ∷ 97 ∷ []) (1 ∷ 2 ∷ []) (2 ∷ 1 ∷ 1 ∷ 0 ∷ []) ≡ 0 ∷ 4 ∷ 2 ∷ 1 ∷ 0 ∷ 0 ∷ []
unfolding again
not_first_again = refl

to_front_again : again bytes ends (1 ∷ 255 ∷ []) ≡ 1 ∷ 7 ∷ 1 ∷ 1 ∷ []
unfolding again bytes ends
to_front_again = refl

-- a number in place of a text, and an offset inside of an instruction, are read back all the same
no_text_again : again bytes ends (2 ∷ 1 ∷ 2 ∷ 0 ∷ []) ≡ 0 ∷ 4 ∷ 2 ∷ 1 ∷ 2 ∷ 0 ∷ []
unfolding again bytes ends
no_text_again = refl

to_inside_again : again bytes ends (1 ∷ 1 ∷ []) ≡ 0 ∷ 2 ∷ 1 ∷ 1 ∷ []
unfolding again bytes ends
to_inside_again = refl
