-- Worked listings, computed over the definitions. Assumes nothing.
use mathlib.Core.Path.{◌≡◌, refl}
use mathlib.Core.Bool.{Bool, true, false}
use mathlib.Core.List.{List, [], ◌∷◌}
use Prim.Native.Nat.{ℕ}
use Rattle.lists.specs.Scan.{run, same, opens}
use Rattle.lists.specs.Text.{text}
use Rattle.spec_numbers.specs.LittleEndian.{le}
use Rattle.spec_numbers.specs.TwosComplement.{extend8}
use Rattle.spec_numbers.specs.Print.{digit, digits, padded, decimal, signed_decimal, hex_lower, hex_lower4, hex_upper, hex_upper4}
use Rattle.spec_numbers.specs.Parse.{digit_value, digits_value, unsigned_value}
use Rattle.spec_sheet.specs.Types.{type_names, type_code_in, type_code, width_of, family_of, kind_of}
use Rattle.spec_sheet.specs.Scan.{after, literal_at, is_name_byte, number_read, number_at, keyed_at, may_be_name, name_at, type_at}
use Rattle.spec_sheet.specs.Line.{with_type, types_from, types_at, head_at, line_types, line_head, line_at, type_row, info_row}
use Rattle.spec_sheet.specs.Sheet.{fill, has_name, find_name, is_missing, may_follow, accepted, on_line, ops_from, sheet_ops, sheet_at, ends_at, sheet_of, above}
use Rattle.spec_strings.specs.Utf8.{after_lead, after_next, step, utf8_from, lead_bits, bits_after, chars_from}
use Rattle.spec_strings.specs.Table.{is_too_large, well_formed, fault_from}
use Rattle.spec_strings.specs.Escape.{unicode, escape, escape_all, escape_text, quoted}
use Rattle.spec_sheet.specs.Row.{sum_by}
use Rattle.spec_body.specs.Record.{pairs}
use Rattle.spec_body.specs.Decode.{prepend, decode_from}
use Rattle.spec_body.specs.Function.{in_area}
use Rattle.answers.specs.Outcome.{measured}
use Rattle.answers.proofs.Shown.{room, shown}
use Rattle.spec_listing.specs.Options.{Options}
use Rattle.spec_inputs.specs.Context.{name_of, is_jump}
use Rattle.spec_listing.specs.Operand.{distance_of, target_of, string_text, operand_text, operand_texts}
use Rattle.spec_listing.specs.Line.{offset_text, instruction_text}
use Rattle.spec_listing.specs.Labels.{ends_flow, targets, labels_of, label_offsets, among, different}
use Rattle.spec_listing.specs.Listing.{label_line, label_text, instruction_line, long_line, unless_long, list_decoded, append, listed_text, list_entries}
use Rattle.spec_listing.specs.Module.{function_name, banner, list_function_in, list_functions_from}
use Rattle.spec_listing.specs.Operation.{list_outcome, list, list_module}
use Rattle.spec_inputs.specs.Inputs.{unless_fault, under_table, under_context, under_inputs}

-- the sheet, strings and body of document 01's job
unfoldable sheet : List ℕ
sheet =
    text "version=1\ncount=4\nop=0 name=LoadByte jump=0 types=Reg8,UInt8\nop=1 name=Jmp jump=1 types=Addr8\nop=2 name=LoadText jump=0 types=Reg8,UInt16S\nop=4 name=Ret jump=0 types=Reg8\n"

bytes : List ℕ
bytes = 97 ∷ 44 ∷ 98 ∷ 195 ∷ 169 ∷ []

ends : List ℕ
ends = 3 ∷ 5 ∷ []

body : List ℕ
body = 0 ∷ 1 ∷ 7 ∷ 1 ∷ 6 ∷ 2 ∷ 1 ∷ 0 ∷ 0 ∷ 4 ∷ 1 ∷ []

abbrev shows : Bool → Bool → Bool → Options
shows offsets labels texts = record { show_offsets = offsets; show_labels = labels; resolve_strings = texts }

-- what listing the body, and a module of one function with a name that is escaped, evaluates to
unfoldable listing : Options → ℕ → List ℕ
unfolding shown bytes ends body list list_module hex_upper hex_upper4 under_inputs under_table unless_fault under_context list_outcome is_too_large well_formed fault_from after_lead after_next step utf8_from lead_bits bits_after chars_from unicode escape escape_all escape_text quoted decode_from prepend pairs sum_by le extend8 digit digits padded decimal signed_decimal hex_lower hex_lower4 width_of family_of kind_of sheet_of ends_at sheet_at sheet_ops ops_from on_line accepted may_follow is_missing find_name has_name fill type_row info_row line_at line_head line_types head_at types_at types_from with_type type_at name_at may_be_name keyed_at number_at number_read is_name_byte literal_at after type_code type_code_in type_names unsigned_value digits_value digit_value run same opens text above sheet in_area name_of is_jump distance_of target_of string_text operand_text operand_texts offset_text instruction_text ends_flow targets labels_of label_offsets among different label_line label_text instruction_line listed_text long_line list_entries unless_long list_decoded append function_name banner list_function_in list_functions_from measured
listing o lent = shown (list o sheet bytes ends body) (room 1000 lent)

unfoldable module_listing : Options → ℕ → List ℕ
unfolding shown bytes ends body list list_module hex_upper hex_upper4 under_inputs under_table unless_fault under_context list_outcome is_too_large well_formed fault_from after_lead after_next step utf8_from lead_bits bits_after chars_from unicode escape escape_all escape_text quoted decode_from prepend pairs sum_by le extend8 digit digits padded decimal signed_decimal hex_lower hex_lower4 width_of family_of kind_of sheet_of ends_at sheet_at sheet_ops ops_from on_line accepted may_follow is_missing find_name has_name fill type_row info_row line_at line_head line_types head_at types_at types_from with_type type_at name_at may_be_name keyed_at number_at number_read is_name_byte literal_at after type_code type_code_in type_names unsigned_value digits_value digit_value run same opens text above sheet in_area name_of is_jump distance_of target_of string_text operand_text operand_texts offset_text instruction_text ends_flow targets labels_of label_offsets among different label_line label_text instruction_line listed_text long_line list_entries unless_long list_decoded append function_name banner list_function_in list_functions_from measured
module_listing o lent = shown (list_module o sheet bytes ends (record { functions = 20 ∷ 2 ∷ 1 ∷ []; bytes = 0 ∷ 4 ∷ 1 ∷ []; base = 19 })) (room 1000 lent)

-- document 01's listing, with one label entry for each of its three label offsets
listed_job : listing (shows true true true) 3 ≡ 0 ∷ 80 ∷ text "0000  LoadByte r1, 7\n0003  Jmp L9\nL5:\n0005  LoadText r1, \"a,b\"\nL9:\n0009  Ret r1\n"
unfolding listing text
listed_job = refl

-- with two entries it is 19: the third offset is the end of the body, behind Ret
entries_needed : listing (shows true true true) 2 ≡ 1 ∷ 19 ∷ 0 ∷ 0 ∷ []
unfolding listing
entries_needed = refl

-- nothing shown but names and operands, and no entry needed
bare_job : listing (shows false false false) 0 ≡ 0 ∷ 44 ∷ text "LoadByte r1, 7\nJmp L9\nLoadText r1, 0\nRet r1\n"
unfolding listing text
bare_job = refl

listed_module : module_listing (shows true true true) 1 ≡ 0 ∷ 39 ∷ text "function 0 (\"\\u00E9\"):\n  0000  Ret r1\n\n"
unfolding module_listing text
listed_module = refl
