-- The space that is told before the work, computed over the definitions on document 01's sheet (document 02 (b)). Assumes nothing.
use mathlib.Core.Path.{◌≡◌, refl}
use mathlib.Core.Bool.{true}
use mathlib.Core.List.{List, [], ◌∷◌}
use Prim.Native.Nat.{ℕ}
use Rattle.lists.specs.Scan.{run, all, same, opens}
use Rattle.lists.specs.Text.{text}
use Rattle.spec_numbers.specs.LittleEndian.{le, le_bytes}
use Rattle.spec_numbers.specs.TwosComplement.{extend8}
use Rattle.spec_numbers.specs.Parse.{digit_value, digits_value, unsigned_value, parse_u32_in, minus, negated, parse_i32}
use Rattle.spec_sheet.specs.Types.{type_names, type_code_in, type_code, width_of, family_of, kind_of}
use Rattle.spec_sheet.specs.Scan.{after, literal_at, is_name_byte, number_read, number_at, keyed_at, may_be_name, name_at, type_at}
use Rattle.spec_sheet.specs.Line.{with_type, types_from, types_at, head_at, line_types, line_head, line_at, type_row, info_row}
use Rattle.spec_sheet.specs.Sheet.{fill, has_name, find_name, is_missing, may_follow, accepted, on_line, ops_from, sheet_ops, sheet_at, ends_at, sheet_of, above}
use Rattle.spec_strings.specs.Table.{lookup_from, is_too_large, well_formed, fault_from}
use Rattle.spec_sheet.specs.Row.{sum_by}
use Rattle.spec_body.specs.Record.{pairs, join}
use Rattle.spec_body.specs.Decode.{prepend, decode_from}
use Rattle.spec_body.specs.Starts.{places_of}
use Rattle.spec_inputs.specs.Context.{name_of, is_jump}
use Rattle.spec_listing.specs.Operand.{distance_of, target_of, string_text, operand_text, operand_texts}
use Rattle.spec_listing.specs.Labels.{among, ends_flow, targets, labels_of, label_offsets, different}
use Rattle.spec_numbers.specs.Double.{bits_of_whole, with_sign, whole_digits, read_whole, read_hex16, read_double, infinity_text, hex_mark}
use Rattle.spec_strings.specs.Utf8.{after_lead, after_next, step, utf8_from, lead_bits, bits_after, chars_from}
use Rattle.spec_strings.specs.Escape.{meant, unescape, unicode, escape, escape_all, escape_text, quoted}
use Rattle.answers.specs.Outcome.{measured}
use Rattle.spec_listing.specs.Operation.{list_outcome, list, list_module}
use Rattle.spec_inputs.specs.Inputs.{unless_fault, under_table, under_context, under_inputs, under_sheet}
use Rattle.spec_hasm.specs.Text.{onto, lines_of, is_white, solid_length, trim}
use Rattle.spec_hasm.specs.Comment.{is_quote, is_comment, outside, inside}
use Rattle.spec_hasm.specs.Split.{split_outside, split_inside, tokens_from, tokens, instruction_name, instruction_operands}
use Rattle.spec_hasm.specs.Line.{is_skipped, is_label, has_hex_prefix, behind_hex_mark, is_offset, behind_offset, statement_in}
use Rattle.spec_hasm.specs.Token.{number_or, found_or, register_value, is_quoted, string_value, offset_or, target_in, is_near, distance_to, token_value}
use Rattle.spec_hasm.specs.Assemble.{is_text_byte, unless_bad_line, on_statement, program_from, on_name, unless_bad_name, found_in, holding, labels_from, unless_found, label_offset, prepend as prependText, on_value, operands_from, behind, on_operands, bytes_from, assemble_codes, assemble_text}
use Rattle.spec_hasm.specs.Operation.{assemble_outcome, assemble}
use Rattle.spec_numbers.specs.Print.{digit, digits, padded, decimal, signed_decimal, hex_lower, hex_lower4, hex_upper, hex_upper4}
use Rattle.spec_body.specs.Function.{in_area}
use Rattle.spec_listing.specs.Line.{offset_text, instruction_text}
use Rattle.spec_listing.specs.Listing.{label_line, label_text, instruction_line, long_line, unless_long, list_decoded, append, listed_text as linesOfListed, list_entries}
use Rattle.spec_listing.specs.Module.{function_name, banner, list_function_in, list_functions_from}
use Rattle.spec_body.specs.Operation.{decode_outcome, decode}
use Rattle.spec_carry.specs.Meaning.{reaches, first_place}
use Rattle.spec_carry.specs.Cases.{unless_case}
use Rattle.spec_carry.specs.Passes.{or_zero, moved_from, near, operand_cases, operands_cases, first_pass, far_cases, second_pass, distance_bits, new_bits, new_operands, new_bytes}
use Rattle.spec_carry.specs.Carry.{sheet_case, input_cases, context_in, largest_in, decode_cases, records_in, carried, carry_cases, carry}
use Rattle.spec_hasm.specs.Token as token
use Rattle.answers.specs.Outcome.{sizes, space_of}
use Rattle.answers.specs.Refusals.{fault_number, refusal_report}
use Rattle.answers.specs.Space.{need_in, SpaceReport, space_report}
use Rattle.theorems.specs.Premises.{default}
use Rattle.theorems.specs.Calls.{Call, outcome_of, unit_of}
use Rattle.theorems.specs.Calls.Call.{decoding, listing, assembling, carrying}
use Rattle.theorems.proofs.Starred.{sheet, wider, Trial, agree}

-- number, place and operand, then bytes, records and label entries
unfoldable answered : SpaceReport → List ℕ
answered r = r.number ∷ r.place ∷ r.operand ∷ r.need.bytes ∷ r.need.records ∷ r.need.labels ∷ []

unfoldable asked : Call → List ℕ
unfolding answered outcome_of unit_of space_report need_in space_of sizes refusal_report fault_number sheet wider run all same opens text le_bytes digit_value digits_value unsigned_value parse_u32_in minus negated parse_i32 bits_of_whole with_sign whole_digits read_whole read_hex16 read_double infinity_text hex_mark type_names type_code_in type_code width_of family_of kind_of after literal_at is_name_byte number_read number_at keyed_at may_be_name name_at type_at with_type types_from types_at head_at line_types line_head line_at type_row info_row fill has_name find_name is_missing may_follow accepted on_line ops_from sheet_ops sheet_at ends_at sheet_of above after_lead after_next step utf8_from is_too_large well_formed fault_from lookup_from meant unescape sum_by unless_fault under_table under_context under_inputs onto lines_of is_white solid_length trim is_quote is_comment outside inside split_outside split_inside tokens_from tokens instruction_name instruction_operands is_skipped is_label has_hex_prefix behind_hex_mark is_offset behind_offset statement_in number_or found_or register_value token.unsigned_value is_quoted string_value offset_or target_in is_near distance_to token_value is_text_byte unless_bad_line on_statement program_from on_name unless_bad_name found_in holding labels_from unless_found label_offset prependText on_value operands_from behind on_operands bytes_from assemble_codes assemble_text assemble_outcome assemble list list_module hex_upper hex_upper4 list_outcome lead_bits bits_after chars_from unicode escape escape_all escape_text quoted decode_from prepend pairs le extend8 digit digits padded decimal signed_decimal hex_lower hex_lower4 in_area name_of is_jump distance_of target_of string_text operand_text operand_texts offset_text instruction_text ends_flow targets labels_of label_offsets among different label_line label_text instruction_line linesOfListed long_line list_entries unless_long list_decoded append function_name banner list_function_in list_functions_from measured decode under_sheet decode_outcome join carry carried input_cases carry_cases decode_cases records_in largest_in context_in sheet_case new_bytes new_operands new_bits distance_bits unless_case or_zero moved_from near operand_cases operands_cases first_pass far_cases second_pass reaches first_place places_of
asked c = answered (space_report (unit_of c) (outcome_of c))

-- the job's strings, body and listing
bytes : List ℕ
bytes = 97 ∷ 44 ∷ 98 ∷ 195 ∷ 169 ∷ []

ends : List ℕ
ends = 3 ∷ 5 ∷ []

body : List ℕ
body = 0 ∷ 1 ∷ 7 ∷ 1 ∷ 6 ∷ 2 ∷ 1 ∷ 0 ∷ 0 ∷ 4 ∷ 1 ∷ []

listed : List ℕ
listed = text "0000  LoadByte r1, 7\n0003  Jmp L9\nL5:\n0005  LoadText r1, \"a,b\"\nL9:\n0009  Ret r1\n"

unfoldable trials : List Trial
trials =
    -- the body's four instructions
    record { computed = asked (decoding sheet body); expected = 0 ∷ 0 ∷ 0 ∷ 0 ∷ 4 ∷ 0 ∷ [] }
    -- its listing has 80 bytes, and labels at 5, 9 and behind Ret
    ∷ record { computed = asked (listing default sheet bytes ends body); expected = 0 ∷ 0 ∷ 0 ∷ 80 ∷ 0 ∷ 3 ∷ [] }
    -- the listing assembled: two label lines that an instruction takes
    ∷ record { computed = asked (assembling sheet bytes ends listed); expected = 0 ∷ 0 ∷ 0 ∷ 11 ∷ 0 ∷ 2 ∷ [] }
    -- the trial of carrying
    ∷ record {
      computed = asked (carrying (record { sheet₁ = sheet; bytes₁ = bytes; ends₁ = ends; sheet₂ = wider; bytes₂ = 120 ∷ 97 ∷ 44 ∷ 98 ∷ []; ends₂ = 1 ∷ 4 ∷ []; body = body }));
      expected = 0 ∷ 0 ∷ 0 ∷ 13 ∷ 0 ∷ 4 ∷ [];
    }
    -- nothing is needed for nothing
    ∷ record { computed = asked (decoding sheet []); expected = 0 ∷ 0 ∷ 0 ∷ 0 ∷ 0 ∷ 0 ∷ [] }
    -- 05: 13, and no figures
    ∷ record { computed = asked (decoding sheet (5 ∷ [])); expected = 13 ∷ 0 ∷ 0 ∷ 0 ∷ 0 ∷ 0 ∷ [] }
    -- `LoadText r1, "zz"`: 10 at line 1, operand 2
    ∷ record { computed = asked (assembling sheet bytes ends (text "LoadText r1, \"zz\"")); expected = 10 ∷ 1 ∷ 2 ∷ 0 ∷ 0 ∷ 0 ∷ [] }
    ∷ []

space_trials : agree trials ≡ true
unfolding agree trials same asked bytes ends body listed text
space_trials = refl
