-- Jobs and what is printed for them, computed over the definitions. Assumes nothing.
use mathlib.Core.Path.{◌≡◌, refl}
use mathlib.Core.List.{List, ◌++◌}
use Rattle.lists.specs.Scan.{run, all, same, opens}
use Rattle.lists.specs.Text.{text}
use Rattle.spec_numbers.specs.LittleEndian.{le, le_bytes}
use Rattle.spec_numbers.specs.TwosComplement.{extend8}
use Rattle.spec_numbers.specs.Print.{digit, digits, padded, decimal, signed_decimal, hex_lower, hex_lower4, hex_upper, hex_upper4}
use Rattle.spec_numbers.specs.Parse.{digit_value, digits_value, unsigned_value, parse_u32_in}
use Rattle.spec_sheet.specs.Types.{type_names, type_code_in, type_code, width_of, family_of, kind_of}
use Rattle.spec_sheet.specs.Scan.{after, literal_at, is_name_byte, number_read, number_at, keyed_at, may_be_name, name_at, type_at}
use Rattle.spec_sheet.specs.Line.{with_type, types_from, types_at, head_at, line_types, line_head, line_at, type_row, info_row}
use Rattle.spec_sheet.specs.Sheet.{fill, has_name, find_name, is_missing, may_follow, accepted, on_line, ops_from, sheet_ops, sheet_at, above}
use Rattle.spec_strings.specs.Utf8.{after_lead, after_next, step, utf8_from, lead_bits, bits_after, chars_from}
use Rattle.spec_strings.specs.Table.{is_too_large, well_formed, fault_from, lookup_from}
use Rattle.spec_strings.specs.Escape.{meant, unescape, unicode, escape, escape_all, escape_text, quoted}
use Rattle.spec_sheet.specs.Row.{sum_by}
use Rattle.spec_body.specs.Record.{pairs}
use Rattle.spec_body.specs.Decode.{prepend, decode_from}
use Rattle.spec_body.specs.Starts.{places_of}
use Rattle.spec_carry.specs.Meaning.{reaches, first_place}
use Rattle.spec_carry.specs.Cases.{unless_case}
use Rattle.spec_carry.specs.Passes.{or_zero, moved_from, near, operand_cases, operands_cases, first_pass, far_cases, second_pass, distance_bits, new_bits, new_operands, new_bytes}
use Rattle.spec_carry.specs.Carry.{decode_cases, records_in}
use Rattle.spec_inputs.specs.Context.{name_of, is_jump}
use Rattle.spec_listing.specs.Operand.{distance_of, target_of, string_text, operand_text, operand_texts}
use Rattle.spec_listing.specs.Line.{offset_text, instruction_text}
use Rattle.spec_listing.specs.Labels.{ends_flow, targets, labels_of, label_offsets, among, different}
use Rattle.spec_listing.specs.Listing.{label_line, label_text, instruction_line, long_line, unless_long, list_decoded, append, listed_text, list_entries}
use Rattle.spec_listing.specs.Operation.{list_outcome}
use Rattle.spec_inputs.specs.Inputs.{unless_fault, under_table}
use Rattle.spec_hasm.specs.Text as hasmText
use Rattle.spec_hasm.specs.Comment.{is_quote, is_comment, outside, inside}
use Rattle.spec_hasm.specs.Split.{split_outside, split_inside, tokens_from, tokens, instruction_name, instruction_operands}
use Rattle.spec_hasm.specs.Line.{is_skipped, is_label, has_hex_prefix, behind_hex_mark, is_offset, behind_offset, statement_in}
use Rattle.spec_hasm.specs.Token as token
use Rattle.spec_hasm.specs.Assemble as hasm
use Rattle.spec_hasm.specs.Operation.{assemble_outcome}
use Prim.Native.Nat.{ℕ}
use Rattle.spec_job.specs.Hex.{with_byte, hex_from}
use Rattle.spec_job.specs.Table.{on_hex, keyed_hex_at, strings_from, table_at}
use Rattle.spec_job.specs.Job.{with_table, with_sheet, on_inputs, with_body, with_text, with_second, read_list, read_assemble, read_carry, read_word, read_job}
use Rattle.spec_job.specs.Printed.{list_under, assemble_under, carry_under, job_run, refused_text, hex_of, body_text, form_of, printed_of, printed}
use Rattle.answers.specs.Refusals.{fault_number, refusal_report}
use Rattle.answers.specs.Outcome.{measured, sizes, exceeds, is_short}

-- a job with document 01's sheet and strings, what it asks for and what stands behind the strings
unfoldable job_of : List ℕ → List ℕ → List ℕ
job_of word last =
    word ++ text "version=1\ncount=4\nop=0 name=LoadByte jump=0 types=Reg8,UInt8\nop=1 name=Jmp jump=1 types=Addr8\nop=2 name=LoadText jump=0 types=Reg8,UInt16S\nop=4 name=Ret jump=0 types=Reg8\nstrings=2\ns=612C62\ns=C3A9\n" ++ last

abbrev job : List ℕ → List ℕ
job last = job_of (text "job=list\n") last

unfoldable prints : List ℕ → List ℕ
unfolding printed with_byte hex_from on_hex keyed_hex_at strings_from table_at with_table with_sheet on_inputs with_body with_text with_second read_list read_assemble read_carry read_word read_job list_under assemble_under carry_under unless_case or_zero moved_from near operand_cases operands_cases first_pass far_cases second_pass distance_bits new_bits new_operands new_bytes decode_cases records_in reaches first_place places_of job_run refused_text hex_of body_text form_of printed_of hex_upper hex_upper4 under_table unless_fault list_outcome is_too_large well_formed fault_from after_lead after_next step utf8_from lead_bits bits_after chars_from unicode escape escape_all escape_text quoted decode_from prepend pairs sum_by le extend8 digit digits padded decimal signed_decimal hex_lower hex_lower4 width_of family_of kind_of sheet_at sheet_ops ops_from on_line accepted may_follow is_missing find_name has_name fill type_row info_row line_at line_head line_types head_at types_at types_from with_type type_at name_at may_be_name keyed_at number_at number_read is_name_byte literal_at after type_code type_code_in type_names unsigned_value digits_value digit_value run same opens text above name_of is_jump distance_of target_of string_text operand_text operand_texts offset_text instruction_text ends_flow targets labels_of label_offsets among different label_line label_text instruction_line listed_text long_line list_entries unless_long list_decoded append all lookup_from meant unescape le_bytes parse_u32_in hasmText.onto hasmText.lines_of hasmText.is_white hasmText.solid_length hasmText.trim is_quote is_comment outside inside split_outside split_inside tokens_from tokens instruction_name instruction_operands is_skipped is_label has_hex_prefix behind_hex_mark is_offset behind_offset statement_in token.number_or token.found_or token.register_value token.unsigned_value token.is_quoted token.string_value token.offset_or token.target_in token.is_near token.distance_to token.token_value hasm.is_text_byte hasm.unless_bad_line hasm.on_statement hasm.program_from hasm.on_name hasm.unless_bad_name hasm.found_in hasm.holding hasm.labels_from hasm.unless_found hasm.label_offset hasm.prepend hasm.on_value hasm.operands_from hasm.behind hasm.on_operands hasm.bytes_from hasm.assemble_codes hasm.assemble_text assemble_outcome measured fault_number refusal_report sizes exceeds is_short
prints s = printed s

-- document 01's job
document_job : prints (job (text "body=0001070106020100000401\n")) ≡ text "0000  LoadByte r1, 7\n0003  Jmp L9\nL5:\n0005  LoadText r1, \"a,b\"\nL9:\n0009  Ret r1\n"
unfolding prints job_of text
document_job = refl

-- 13 at its offset; hex of either case
beyond_job : prints (job (text "body=040105\n")) ≡ text "refused=13 place=2 operand=0\n"
unfolding prints job_of text
beyond_job = refl

-- a byte behind the body's line, which is the job's eleventh; an odd digit; a line that is not ended
line_behind : prints (job (text "body=04Ff\n\n")) ≡ text "refused=1 place=12 operand=0\n"
unfolding prints job_of text
line_behind = refl

odd_digit : prints (job (text "body=040\n")) ≡ text "refused=1 place=11 operand=0\n"
unfolding prints job_of text
odd_digit = refl

unended_line : prints (job (text "body=0401")) ≡ text "refused=1 place=11 operand=0\n"
unfolding prints job_of text
unended_line = refl

-- too many strings, at their line; a job that there is not
many_strings : prints (text "job=list\nversion=1\ncount=1\nop=0 name=A jump=0 types=-\nstrings=4097\n") ≡ text "refused=1 place=5 operand=0\n"
unfolding prints text
many_strings = refl

other_job : prints (text "job=carried\n") ≡ text "refused=1 place=1 operand=0\n"
unfolding prints text
other_job = refl

-- the listing that document 01 prints, assembled to the body it was listed from
abbrev assemble_job : List ℕ → List ℕ
assemble_job last = job_of (text "job=assemble\n") (text "text=\n" ++ last)

document_text : prints (assemble_job (text "0000  LoadByte r1, 7\n0003  Jmp L9\nL5:\n0005  LoadText r1, \"a,b\"\nL9:\n0009  Ret r1\n")) ≡ text "body=0001070106020100000401\n"
unfolding prints job_of text
document_text = refl

-- "bad register on line 1, unknown name on line 2: 4 at line 2", lines of the text
unknown_name : prints (assemble_job (text "Ret x1\nRat r1\n")) ≡ text "refused=4 place=2 operand=0\n"
unfolding prints job_of text
unknown_name = refl

-- no text, and its line missing
empty_text : prints (assemble_job (text "")) ≡ text "body=\n"
unfolding prints job_of text
empty_text = refl

no_text : prints (job_of (text "job=assemble\n") (text "body=\n")) ≡ text "refused=1 place=11 operand=0\n"
unfolding prints job_of text
no_text = refl

-- document 01's sheet and strings, then a second sheet and what stands behind it
unfoldable carry_job : List ℕ → List ℕ
unfolding job_of
carry_job last =
    job_of (text "job=carry\n") (text "version=1\ncount=4\nop=0 name=LoadByte jump=0 types=Reg8,UInt8\nop=1 name=Jmp jump=1 types=Addr8\nop=2 name=LoadText jump=0 types=Reg8,UInt32S\nop=4 name=Ret jump=0 types=Reg8\n" ++ last)

-- "carry the job's body to a sheet with LoadText as Reg8,UInt32S and strings "x", "a,b""
document_carry : prints (carry_job (text "strings=2\ns=78\ns=612C62\nbody=0001070106020100000401\n")) ≡ text "body=00010701080201010000000401\n"
unfolding prints carry_job text
document_carry = refl

-- 1 of the second strings, numbered in the job, and of the body behind them
carry_strings : prints (carry_job (text "string=2\n")) ≡ text "refused=1 place=17 operand=0\n"
unfolding prints carry_job text
carry_strings = refl

carry_no_body : prints (carry_job (text "strings=2\ns=FF\ns=612C62\n")) ≡ text "refused=1 place=20 operand=0\n"
unfolding prints carry_job text
carry_no_body = refl

-- 17 of the second table, and of the first where both have it; 4 by the second sheet
carry_second_table : prints (carry_job (text "strings=2\ns=78\ns=FF\nbody=05\n")) ≡ text "refused=17 place=1 operand=0\n"
unfolding prints carry_job text
carry_second_table = refl

abbrev small_job : List ℕ → List ℕ → List ℕ
small_job first second =
    text "job=carry\nversion=1\ncount=1\nop=0 name=A jump=0 types=-\n" ++ first ++ text "version=1\ncount=1\nop=0 name=B jump=0 types=-\n" ++ second ++ text "body=00\n"

carry_both_tables : prints (small_job (text "strings=2\ns=61\ns=FF\n") (text "strings=1\ns=FF\n")) ≡ text "refused=17 place=1 operand=0\n"
unfolding prints text
carry_both_tables = refl

carry_name : prints (small_job (text "strings=0\n") (text "strings=0\n")) ≡ text "refused=4 place=0 operand=0\n"
unfolding prints text
carry_name = refl
