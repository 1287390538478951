-- Worked texts, assembled by computing over the definitions. Assumes nothing.
use mathlib.Core.Path.{◌≡◌, refl}
use mathlib.Core.List.{List, [], ◌∷◌, ◌++◌}
use Prim.Native.Nat.{ℕ}
use Rattle.lists.specs.Scan.{run, all, same, opens}
use Rattle.lists.specs.Text.{text}
use Rattle.spec_numbers.specs.LittleEndian.{le_bytes}
use Rattle.spec_numbers.specs.Parse.{digit_value, digits_value, unsigned_value, parse_u32_in, minus, negated, parse_i32}
use Rattle.spec_numbers.specs.Double.{bits_of_whole, with_sign, whole_digits, read_whole, read_hex16, read_double, infinity_text, hex_mark}
use Rattle.spec_sheet.specs.Types.{type_names, type_code_in, type_code, width_of, family_of, kind_of}
use Rattle.spec_sheet.specs.Scan.{after, literal_at, is_name_byte, number_read, number_at, keyed_at, may_be_name, name_at, type_at}
use Rattle.spec_sheet.specs.Line.{with_type, types_from, types_at, head_at, line_types, line_head, line_at, type_row, info_row}
use Rattle.spec_sheet.specs.Sheet.{fill, has_name, find_name, is_missing, may_follow, accepted, on_line, ops_from, sheet_ops, sheet_at, ends_at, sheet_of, above}
use Rattle.spec_strings.specs.Utf8.{after_lead, after_next, step, utf8_from}
use Rattle.spec_strings.specs.Table.{is_too_large, well_formed, fault_from, lookup_from}
use Rattle.spec_strings.specs.Escape.{meant, unescape}
use Rattle.spec_sheet.specs.Row.{sum_by}
use Rattle.answers.specs.Outcome.{measured}
use Rattle.answers.proofs.Shown.{room, shown}
use Rattle.spec_inputs.specs.Inputs.{unless_fault, under_table, under_context, under_inputs}
use Rattle.spec_hasm.specs.Text.{onto, lines_of, is_white, solid_length, trim}
use Rattle.spec_hasm.specs.Comment.{is_quote, is_comment, outside, inside}
use Rattle.spec_hasm.specs.Split.{split_outside, split_inside, tokens_from, tokens, instruction_name, instruction_operands}
use Rattle.spec_hasm.specs.Line.{is_skipped, is_label, has_hex_prefix, behind_hex_mark, is_offset, behind_offset, statement_in}
use Rattle.spec_hasm.specs.Token as token
use Rattle.spec_hasm.specs.Token.{number_or, found_or, register_value, is_quoted, string_value, offset_or, target_in, is_near, distance_to, token_value}
use Rattle.spec_hasm.specs.Assemble.{is_text_byte, unless_bad_line, on_statement, program_from, on_name, unless_bad_name, found_in, holding, labels_from, unless_found, label_offset, prepend, on_value, operands_from, behind, on_operands, bytes_from, assemble_codes, assemble_text}
use Rattle.spec_hasm.specs.Operation.{assemble_outcome, assemble}

-- the sheet and strings of document 01's job
unfoldable sheet : List ℕ
sheet =
    text "version=1\ncount=4\nop=0 name=LoadByte jump=0 types=Reg8,UInt8\nop=1 name=Jmp jump=1 types=Addr8\nop=2 name=LoadText jump=0 types=Reg8,UInt16S\nop=4 name=Ret jump=0 types=Reg8\n"

bytes : List ℕ
bytes = 97 ∷ 44 ∷ 98 ∷ 195 ∷ 169 ∷ []

ends : List ℕ
ends = 3 ∷ 5 ∷ []

-- a text under that sheet, with two label entries lent
unfoldable assembling_under : List ℕ → List ℕ → List ℕ
unfolding shown sheet bytes ends run all same opens text le_bytes digit_value digits_value unsigned_value parse_u32_in minus negated parse_i32 bits_of_whole with_sign whole_digits read_whole read_hex16 read_double infinity_text hex_mark type_names type_code_in type_code width_of family_of kind_of after literal_at is_name_byte number_read number_at keyed_at may_be_name name_at type_at with_type types_from types_at head_at line_types line_head line_at type_row info_row fill has_name find_name is_missing may_follow accepted on_line ops_from sheet_ops sheet_at ends_at sheet_of above after_lead after_next step utf8_from is_too_large well_formed fault_from lookup_from meant unescape sum_by unless_fault under_table under_context under_inputs onto lines_of is_white solid_length trim is_quote is_comment outside inside split_outside split_inside tokens_from tokens instruction_name instruction_operands is_skipped is_label has_hex_prefix behind_hex_mark is_offset behind_offset statement_in number_or found_or register_value token.unsigned_value is_quoted string_value offset_or target_in is_near distance_to token_value is_text_byte unless_bad_line on_statement program_from on_name unless_bad_name found_in holding labels_from unless_found label_offset prepend on_value operands_from behind on_operands bytes_from assemble_codes assemble_text assemble_outcome assemble measured
assembling_under names t = shown (assemble names bytes ends t) (room 1000 2)

unfoldable assembling : List ℕ → List ℕ
unfolding assembling_under sheet
assembling t = assembling_under sheet t

empty_text : assembling [] ≡ 0 ∷ 0 ∷ []
unfolding assembling
empty_text = refl

-- "`LoadByte r256, 7`: 00 00 07"
register_256 : assembling (text "LoadByte r256, 7") ≡ 0 ∷ 3 ∷ 0 ∷ 0 ∷ 7 ∷ []
unfolding assembling text
register_256 = refl

-- "`Jmp L127` alone: 01 7F; `Jmp L128`: 8"
jump_127 : assembling (text "Jmp L127") ≡ 0 ∷ 2 ∷ 1 ∷ 127 ∷ []
unfolding assembling text
jump_127 = refl

jump_128 : assembling (text "Jmp L128") ≡ 1 ∷ 8 ∷ 1 ∷ 1 ∷ []
unfolding assembling text
jump_128 = refl

-- "`Ret r+1`: 04 01; `Ret r-1`: 6"
register_plus : assembling (text "Ret r+1") ≡ 0 ∷ 2 ∷ 4 ∷ 1 ∷ []
unfolding assembling text
register_plus = refl

register_minus : assembling (text "Ret r-1") ≡ 1 ∷ 6 ∷ 1 ∷ 1 ∷ []
unfolding assembling text
register_minus = refl

-- "`LoadText r1, "zz"`: 10"
unknown_text : assembling (text "LoadText r1, \"zz\"") ≡ 1 ∷ 10 ∷ 1 ∷ 2 ∷ []
unfolding assembling text
unknown_text = refl

-- "`Ret r1,`: accepted; `Ret r1,,`: 5"
last_comma : assembling (text "Ret r1,") ≡ 0 ∷ 2 ∷ 4 ∷ 1 ∷ []
unfolding assembling text
last_comma = refl

two_commas : assembling (text "Ret r1,,") ≡ 1 ∷ 5 ∷ 1 ∷ 0 ∷ []
unfolding assembling text
two_commas = refl

-- "bad register on line 1, unknown name on line 2: 4 at line 2"
name_first : assembling (text "Ret x1\nBad r1\n") ≡ 1 ∷ 4 ∷ 2 ∷ 0 ∷ []
unfolding assembling text
name_first = refl

-- document 01's listing gives the job's body
listing_back : assembling (text "0000  LoadByte r1, 7\n0003  Jmp L9\nL5:\n0005  LoadText r1, \"a,b\"\nL9:\n0009  Ret r1\n") ≡ 0 ∷ 11 ∷ 0 ∷ 1 ∷ 7 ∷ 1 ∷ 6 ∷ 2 ∷ 1 ∷ 0 ∷ 0 ∷ 4 ∷ 1 ∷ []
unfolding assembling text
listing_back = refl

-- "binding `L12` to its label line" is a mistake: the offset counts
label_by_offset : assembling (text "Jmp L2\nL2:\nL9:\nRet r1") ≡ 0 ∷ 4 ∷ 1 ∷ 2 ∷ 4 ∷ 1 ∷ []
unfolding assembling text
label_by_offset = refl

label_elsewhere : assembling (text "Jmp L9\nL9:\nRet r1") ≡ 0 ∷ 4 ∷ 1 ∷ 9 ∷ 4 ∷ 1 ∷ []
unfolding assembling text
label_elsewhere = refl

-- `L` alone is looked up, and of two the last counts; an entry each, and no more are needed
label_alone : assembling (text "L:\nJmp L\nL:\nRet r1") ≡ 0 ∷ 4 ∷ 1 ∷ 2 ∷ 4 ∷ 1 ∷ []
unfolding assembling text
label_alone = refl

label_none : assembling (text "Jmp L\nL:\n") ≡ 1 ∷ 7 ∷ 1 ∷ 1 ∷ []
unfolding assembling text
label_none = refl

labels_three : assembling (text "L1:\nRet r1\nL2:\nRet r1\nL3:\nRet r1") ≡ 1 ∷ 19 ∷ 0 ∷ 0 ∷ []
unfolding assembling text
labels_three = refl

-- a comment outside of quotes, CR LF, a banner, an offset in front
comment_cut : assembling (text "Ret r1 // Bad\r\nfunction 3:\r\n0x00Ab \t Ret r2") ≡ 0 ∷ 4 ∷ 4 ∷ 1 ∷ 4 ∷ 2 ∷ []
unfolding assembling text
comment_cut = refl

-- "`\u00E9` as é" is a mistake
escape_plain : assembling (text "LoadText r1, \"\\u00E9\"") ≡ 1 ∷ 10 ∷ 1 ∷ 2 ∷ []
unfolding assembling text
escape_plain = refl

-- 2 at a byte of the second line, after 3 and before every name
bad_byte : assembling (text "Bad\nRet r1 // " ++ (11 ∷ [])) ≡ 1 ∷ 2 ∷ 2 ∷ 0 ∷ []
unfolding assembling text
bad_byte = refl

-- a token that opens with a quote and does not end with one
open_quote : assembling (text "LoadText r1, \"a") ≡ 1 ∷ 9 ∷ 1 ∷ 2 ∷ []
unfolding assembling text
open_quote = refl

-- "stripping `Add` as an offset" is a mistake: this sheet has no `Bad`, so that it is an offset
hex_word : assembling (text "Bad Ret r1") ≡ 0 ∷ 2 ∷ 4 ∷ 1 ∷ []
unfolding assembling text
hex_word = refl

-- and under a sheet that has it, `Add` stands
added_name : assembling_under (text "version=1\ncount=2\nop=0 name=Add jump=0 types=Reg8\nop=1 name=Ret jump=0 types=Reg8\n") (text "Add r1\n0a Add r2\nAdd Ret") ≡ 1 ∷ 6 ∷ 3 ∷ 1 ∷ []
unfolding assembling_under text
added_name = refl

added_twice : assembling_under (text "version=1\ncount=2\nop=0 name=Add jump=0 types=Reg8\nop=1 name=Ret jump=0 types=Reg8\n") (text "Add r1\n0a Add r2") ≡ 0 ∷ 4 ∷ 0 ∷ 1 ∷ 0 ∷ 2 ∷ []
unfolding assembling_under text
added_twice = refl
