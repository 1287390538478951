-- Carrying worked bodies, by computing over the definitions. Assumes nothing.
use mathlib.Core.Path.{◌≡◌, refl}
use mathlib.Core.List.{List, [], ◌∷◌, ◌++◌}
use Prim.Native.Nat.{ℕ}
use Prim.Native.String.{String}
use lib.ListN.{length, replicate}
use Rattle.lists.specs.Scan.{run, same, opens}
use Rattle.lists.specs.Text.{text}
use Rattle.spec_numbers.specs.LittleEndian.{le, le_bytes}
use Rattle.spec_numbers.specs.Parse.{digit_value, digits_value, unsigned_value}
use Rattle.spec_sheet.specs.Types.{type_names, type_code_in, type_code, width_of, kind_of, family_of}
use Rattle.spec_sheet.specs.Scan.{after, literal_at, is_name_byte, number_read, number_at, keyed_at, may_be_name, name_at, type_at}
use Rattle.spec_sheet.specs.Line.{with_type, types_from, types_at, head_at, line_types, line_head, line_at, type_row, info_row}
use Rattle.spec_sheet.specs.Sheet.{fill, has_name, find_name, is_missing, may_follow, accepted, on_line, ops_from, sheet_ops, sheet_at, ends_at, sheet_of, above}
use Rattle.spec_sheet.specs.Row.{sum_by}
use Rattle.spec_strings.specs.Utf8.{after_lead, after_next, step, utf8_from}
use Rattle.spec_strings.specs.Table.{is_too_large, well_formed, fault_from, lookup_from}
use Rattle.answers.proofs.Shown.{room, shown}
use Rattle.spec_inputs.specs.Context.{name_of}
use Rattle.spec_body.specs.Record.{pairs}
use Rattle.spec_body.specs.Decode.{prepend, decode_from, decode_body}
use Rattle.spec_body.specs.Starts.{places_of}
use Rattle.spec_carry.specs.Meaning.{reaches, first_place, target_value, value_of, operands_of, Meaning, meanings_from, meanings}
use Rattle.spec_carry.specs.Meaning.Value.{number, target, text as string}
use Rattle.spec_carry.specs.Cases.{unless_case}
use Rattle.spec_carry.specs.Passes.{or_zero, moved_from, near, operand_cases, operands_cases, first_pass, far_cases, second_pass, distance_bits, new_bits, new_operands, new_bytes}
use Rattle.spec_carry.specs.Carry.{Given, sheet_case, input_cases, context_in, largest_in, from, into, decode_cases, records_in, records_of, carried, carry_cases, carry}

-- the sheet and strings of document 01's job
unfoldable sheet : List ℕ
sheet =
    text "version=1\ncount=4\nop=0 name=LoadByte jump=0 types=Reg8,UInt8\nop=1 name=Jmp jump=1 types=Addr8\nop=2 name=LoadText jump=0 types=Reg8,UInt16S\nop=4 name=Ret jump=0 types=Reg8\n"

bytes : List ℕ
bytes = 97 ∷ 44 ∷ 98 ∷ 195 ∷ 169 ∷ []

ends : List ℕ
ends = 3 ∷ 5 ∷ []

-- its body
body : List ℕ
body = 0 ∷ 1 ∷ 7 ∷ 1 ∷ 6 ∷ 2 ∷ 1 ∷ 0 ∷ 0 ∷ 4 ∷ 1 ∷ []

-- the second sheet and strings of the starred trial
unfoldable sheet₂ : List ℕ
sheet₂ =
    text "version=1\ncount=4\nop=0 name=LoadByte jump=0 types=Reg8,UInt8\nop=1 name=Jmp jump=1 types=Addr8\nop=2 name=LoadText jump=0 types=Reg8,UInt32S\nop=4 name=Ret jump=0 types=Reg8\n"

bytes₂ : List ℕ
bytes₂ = 120 ∷ 97 ∷ 44 ∷ 98 ∷ []

ends₂ : List ℕ
ends₂ = 1 ∷ 4 ∷ []

-- what is shown of carrying with so many label entries lent
unfoldable carrying_with : ℕ → Given → List ℕ
unfolding shown carry carried input_cases carry_cases decode_cases records_in largest_in context_in sheet_case new_bytes new_operands new_bits distance_bits unless_case or_zero moved_from near operand_cases operands_cases first_pass far_cases second_pass reaches first_place places_of name_of lookup_from is_too_large well_formed fault_from after_lead after_next step utf8_from decode_from prepend pairs sum_by le le_bytes width_of kind_of family_of sheet_of ends_at sheet_at sheet_ops ops_from on_line accepted may_follow is_missing find_name has_name fill type_row info_row line_at line_head line_types head_at types_at types_from with_type type_at name_at may_be_name keyed_at number_at number_read is_name_byte literal_at after type_code type_code_in type_names unsigned_value digits_value digit_value run same opens text above
carrying_with entries g = shown (carry g) (room 1000 entries)

unfoldable carrying : Given → List ℕ
unfolding carrying_with
carrying g = carrying_with 200 g

-- the job's body, or another, carried from the job's sheet and strings
unfoldable to : List ℕ → List ℕ → List ℕ → List ℕ → Given
unfolding sheet bytes ends
to sheet₂ bytes₂ ends₂ body =
    record { sheet₁ = sheet; bytes₁ = bytes; ends₁ = ends; sheet₂ = sheet₂; bytes₂ = bytes₂; ends₂ = ends₂; body = body }

unfoldable job : Given
unfolding to sheet sheet₂ bytes ends body bytes₂ ends₂
job = to sheet₂ bytes₂ ends₂ body

-- "*carry the job's body to a sheet with LoadText as Reg8,UInt32S and strings "x", "a,b": 00 01 07 01 08 02 01 01 00 00 00 04 01"
starred : carrying job ≡ 0 ∷ 13 ∷ 0 ∷ 1 ∷ 7 ∷ 1 ∷ 8 ∷ 2 ∷ 1 ∷ 1 ∷ 0 ∷ 0 ∷ 0 ∷ 4 ∷ 1 ∷ []
unfolding carrying job text
starred = refl

-- four entries are enough for four instructions, three are not
entries_enough : carrying_with 4 job ≡ 0 ∷ 13 ∷ 0 ∷ 1 ∷ 7 ∷ 1 ∷ 8 ∷ 2 ∷ 1 ∷ 1 ∷ 0 ∷ 0 ∷ 0 ∷ 4 ∷ 1 ∷ []
unfolding carrying_with job text
entries_enough = refl

entries_short : carrying_with 3 job ≡ 1 ∷ 19 ∷ 0 ∷ 0 ∷ []
unfolding carrying_with job text
entries_short = refl

-- an empty body
empty : carrying (to sheet₂ bytes₂ ends₂ []) ≡ 0 ∷ 0 ∷ []
unfolding carrying to sheet₂ bytes₂ ends₂ text
empty = refl

-- 13 and 14 at the byte, under the first sheet
beyond : carrying (to sheet₂ bytes₂ ends₂ (4 ∷ 1 ∷ 5 ∷ [])) ≡ 1 ∷ 13 ∷ 2 ∷ 0 ∷ []
unfolding carrying to sheet₂ bytes₂ ends₂ text
beyond = refl

cut : carrying (to sheet₂ bytes₂ ends₂ (4 ∷ 1 ∷ 0 ∷ 1 ∷ [])) ≡ 1 ∷ 14 ∷ 2 ∷ 0 ∷ []
unfolding carrying to sheet₂ bytes₂ ends₂ text
cut = refl

-- "<invalid>": 4, though the second sheet names that opcode
invalid : carrying (to (text "version=1\ncount=2\nop=3 name=Nop jump=0 types=-\nop=4 name=Ret jump=0 types=Reg8\n") [] [] (4 ∷ 1 ∷ 3 ∷ [])) ≡ 1 ∷ 4 ∷ 1 ∷ 0 ∷ []
unfolding carrying to text
invalid = refl

-- a text that the second table lacks
text_unknown : carrying (to sheet₂ (120 ∷ []) (1 ∷ []) body) ≡ 1 ∷ 10 ∷ 2 ∷ 2 ∷ []
unfolding carrying to sheet₂ body text
text_unknown = refl

-- an id without text
no_text : carrying (to sheet₂ bytes₂ ends₂ (2 ∷ 1 ∷ 2 ∷ 0 ∷ [])) ≡ 1 ∷ 16 ∷ 0 ∷ 2 ∷ []
unfolding carrying to sheet₂ bytes₂ ends₂ text
no_text = refl

-- a jump to the end, one back, and jumps into an instruction, past the end and before the start
jump_end : carrying (to sheet₂ bytes₂ ends₂ (1 ∷ 6 ∷ 2 ∷ 1 ∷ 0 ∷ 0 ∷ [])) ≡ 0 ∷ 8 ∷ 1 ∷ 8 ∷ 2 ∷ 1 ∷ 1 ∷ 0 ∷ 0 ∷ 0 ∷ []
unfolding carrying to sheet₂ bytes₂ ends₂ text
jump_end = refl

jump_back : carrying (to sheet₂ bytes₂ ends₂ (2 ∷ 1 ∷ 0 ∷ 0 ∷ 1 ∷ 252 ∷ [])) ≡ 0 ∷ 8 ∷ 2 ∷ 1 ∷ 1 ∷ 0 ∷ 0 ∷ 0 ∷ 1 ∷ 250 ∷ []
unfolding carrying to sheet₂ bytes₂ ends₂ text
jump_back = refl

jump_inside : carrying (to sheet₂ bytes₂ ends₂ (1 ∷ 3 ∷ 2 ∷ 1 ∷ 0 ∷ 0 ∷ [])) ≡ 1 ∷ 7 ∷ 0 ∷ 1 ∷ []
unfolding carrying to sheet₂ bytes₂ ends₂ text
jump_inside = refl

jump_past : carrying (to sheet₂ bytes₂ ends₂ (4 ∷ 1 ∷ 1 ∷ 3 ∷ [])) ≡ 1 ∷ 7 ∷ 1 ∷ 1 ∷ []
unfolding carrying to sheet₂ bytes₂ ends₂ text
jump_past = refl

jump_before : carrying (to sheet₂ bytes₂ ends₂ (4 ∷ 1 ∷ 1 ∷ 253 ∷ [])) ≡ 1 ∷ 7 ∷ 1 ∷ 1 ∷ []
unfolding carrying to sheet₂ bytes₂ ends₂ text
jump_before = refl

-- 17 of either table, the first one's before the second's and before 1; 1 of the second sheet at its line
bad_table₁ : carrying (record { sheet₁ = sheet; bytes₁ = 255 ∷ []; ends₁ = 0 ∷ 1 ∷ []; sheet₂ = []; bytes₂ = 255 ∷ []; ends₂ = 1 ∷ []; body = [] }) ≡ 1 ∷ 17 ∷ 1 ∷ 0 ∷ []
unfolding carrying sheet text
bad_table₁ = refl

bad_table₂ : carrying (to [] (97 ∷ 255 ∷ []) (1 ∷ 2 ∷ []) (5 ∷ [])) ≡ 1 ∷ 17 ∷ 1 ∷ 0 ∷ []
unfolding carrying to text
bad_table₂ = refl

bad_sheet₂ : carrying (to (text "version=1\ncount=1\nop=0 name=a jump=0 types=-\n") [] [] (5 ∷ [])) ≡ 1 ∷ 1 ∷ 3 ∷ 0 ∷ []
unfolding carrying to text
bad_sheet₂ = refl

-- equal texts with two ids: both get the first id of the second table
unfoldable twice : Given
unfolding sheet
twice =
    record { sheet₁ = sheet; bytes₁ = 97 ∷ 97 ∷ []; ends₁ = 1 ∷ 2 ∷ []; sheet₂ = sheet; bytes₂ = 98 ∷ 97 ∷ 97 ∷ []; ends₂ = 1 ∷ 2 ∷ 3 ∷ []; body = 2 ∷ 1 ∷ 0 ∷ 0 ∷ 2 ∷ 1 ∷ 1 ∷ 0 ∷ [] }

two_ids : carrying twice ≡ 0 ∷ 8 ∷ 2 ∷ 1 ∷ 1 ∷ 0 ∷ 2 ∷ 1 ∷ 1 ∷ 0 ∷ []
unfolding carrying twice text
two_ids = refl

-- sheets with one opcode A, whose operands are given, and Nop
unfoldable one : String → List ℕ
unfolding text
one types = text "version=1\ncount=2\nop=0 name=A jump=0 types=" ++ text types ++ text "\nop=1 name=Nop jump=0 types=-\n"

-- a body from one such sheet to another, with one text "a" under this id in the second table, all before it being empty
unfoldable between : String → String → ℕ → List ℕ → Given
unfolding one text
between old new id body =
    record { sheet₁ = one old; bytes₁ = 97 ∷ []; ends₁ = 1 ∷ []; sheet₂ = one new; bytes₂ = 97 ∷ []; ends₂ = replicate id 0 ++ 1 ∷ []; body = body }

-- the operands' count comes before their families, and an operand's width before the next one's family
count : carrying (between "Reg8" "UInt8,Reg8" 0 (1 ∷ 0 ∷ 1 ∷ [])) ≡ 1 ∷ 5 ∷ 1 ∷ 0 ∷ []
unfolding carrying between text
count = refl

family : carrying (between "Reg8,UInt32" "Reg32,Imm32" 0 (0 ∷ 1 ∷ 2 ∷ 3 ∷ 4 ∷ 5 ∷ [])) ≡ 1 ∷ 16 ∷ 0 ∷ 2 ∷ []
unfolding carrying between text
family = refl

width_first : carrying (between "UInt16,Imm32" "UInt8,UInt32" 0 (0 ∷ 0 ∷ 1 ∷ 0 ∷ 0 ∷ 0 ∷ 0 ∷ [])) ≡ 1 ∷ 16 ∷ 0 ∷ 1 ∷ []
unfolding carrying between text
width_first = refl

-- 255 and 256 in one byte: registers, numbers, ids
register_255 : carrying (between "Reg32" "Reg8" 0 (0 ∷ 255 ∷ 0 ∷ 0 ∷ 0 ∷ [])) ≡ 0 ∷ 2 ∷ 0 ∷ 255 ∷ []
unfolding carrying between text
register_255 = refl

register_256 : carrying (between "Reg32" "Reg8" 0 (0 ∷ 0 ∷ 1 ∷ 0 ∷ 0 ∷ [])) ≡ 1 ∷ 16 ∷ 0 ∷ 1 ∷ []
unfolding carrying between text
register_256 = refl

number_255 : carrying (between "UInt32" "UInt8" 0 (0 ∷ 255 ∷ 0 ∷ 0 ∷ 0 ∷ [])) ≡ 0 ∷ 2 ∷ 0 ∷ 255 ∷ []
unfolding carrying between text
number_255 = refl

number_256 : carrying (between "UInt32" "UInt8" 0 (0 ∷ 0 ∷ 1 ∷ 0 ∷ 0 ∷ [])) ≡ 1 ∷ 16 ∷ 0 ∷ 1 ∷ []
unfolding carrying between text
number_256 = refl

id_255 : carrying (between "UInt16S" "UInt8S" 255 (0 ∷ 0 ∷ 0 ∷ [])) ≡ 0 ∷ 2 ∷ 0 ∷ 255 ∷ []
unfolding carrying between text
id_255 = refl

id_256 : carrying (between "UInt16S" "UInt8S" 256 (0 ∷ 0 ∷ 0 ∷ [])) ≡ 1 ∷ 16 ∷ 0 ∷ 1 ∷ []
unfolding carrying between text
id_256 = refl

-- numbers in wider types, and an Imm32 and a Double, are kept
kept : carrying (between "UInt8,Imm32,Double" "UInt16,Imm32,Double" 0 (0 ∷ 7 ∷ 255 ∷ 255 ∷ 255 ∷ 255 ∷ 1 ∷ 2 ∷ 3 ∷ 4 ∷ 5 ∷ 6 ∷ 240 ∷ 127 ∷ [])) ≡ 0 ∷ 15 ∷ 0 ∷ 7 ∷ 0 ∷ 255 ∷ 255 ∷ 255 ∷ 255 ∷ 1 ∷ 2 ∷ 3 ∷ 4 ∷ 5 ∷ 6 ∷ 240 ∷ 127 ∷ []
unfolding carrying between text
kept = refl

-- distances 127 and 128, -128 and -129, of an Addr32 that becomes an Addr8
distance_127 : carrying (between "Addr32" "Addr8" 0 (0 ∷ 130 ∷ 0 ∷ 0 ∷ 0 ∷ replicate 125 1)) ≡ 0 ∷ 127 ∷ 0 ∷ 127 ∷ replicate 125 1
unfolding carrying between text
distance_127 = refl

distance_128 : carrying (between "Addr32" "Addr8" 0 (0 ∷ 131 ∷ 0 ∷ 0 ∷ 0 ∷ replicate 126 1)) ≡ 1 ∷ 8 ∷ 0 ∷ 1 ∷ []
unfolding carrying between text
distance_128 = refl

distance_minus_128 : carrying (between "Addr32" "Addr8" 0 (replicate 128 1 ++ 0 ∷ 128 ∷ 255 ∷ 255 ∷ 255 ∷ [])) ≡ 0 ∷ 130 ∷ (replicate 128 1 ++ 0 ∷ 128 ∷ [])
unfolding carrying between text
distance_minus_128 = refl

distance_minus_129 : carrying (between "Addr32" "Addr8" 0 (replicate 129 1 ++ 0 ∷ 127 ∷ 255 ∷ 255 ∷ 255 ∷ [])) ≡ 1 ∷ 8 ∷ 129 ∷ 1 ∷ []
unfolding carrying between text
distance_minus_129 = refl

-- a name that the second sheet lacks; at the last instruction it comes before a distance at the first
unfoldable lacking : List ℕ → Given
unfolding one text
lacking body =
    record { sheet₁ = text "version=1\ncount=3\nop=0 name=A jump=0 types=Addr32\nop=1 name=Nop jump=0 types=-\nop=2 name=Last jump=0 types=-\n"; bytes₁ = []; ends₁ = []; sheet₂ = one "Addr8"; bytes₂ = []; ends₂ = []; body = body }

name_unknown : carrying (lacking (1 ∷ 2 ∷ [])) ≡ 1 ∷ 4 ∷ 1 ∷ 0 ∷ []
unfolding carrying lacking text
name_unknown = refl

name_first : carrying (lacking (0 ∷ 132 ∷ 0 ∷ 0 ∷ 0 ∷ replicate 126 1 ++ 2 ∷ [])) ≡ 1 ∷ 4 ∷ 127 ∷ 0 ∷ []
unfolding carrying lacking text
name_first = refl

-- 18 of a body and of a table, before 17
large_body : carrying (to [] (255 ∷ []) (1 ∷ []) (replicate 65537 0)) ≡ 1 ∷ 18 ∷ 0 ∷ 0 ∷ []
unfolding carrying to text
large_body = refl

large_table : carrying (to [] [] (1 ∷ replicate 65536 0) []) ≡ 1 ∷ 18 ∷ 0 ∷ 0 ∷ []
unfolding carrying to text
large_table = refl

-- what the job's instructions mean, before and behind
unfoldable meant : Given → List Meaning
unfolding meanings_from operands_of value_of target_value carried records_in largest_in context_in new_bytes new_operands new_bits distance_bits or_zero moved_from reaches first_place places_of name_of lookup_from decode_from prepend pairs sum_by le le_bytes width_of kind_of family_of sheet_of ends_at sheet_at sheet_ops ops_from on_line accepted may_follow is_missing find_name has_name fill type_row info_row line_at line_head line_types head_at types_at types_from with_type type_at name_at may_be_name keyed_at number_at number_read is_name_byte literal_at after type_code type_code_in type_names unsigned_value digits_value digit_value run same opens text above
meant g = meanings (from g) (length g.body) (records_of g)

unfoldable meant_after : Given → List Meaning
unfolding meanings_from operands_of value_of target_value carried records_in largest_in context_in new_bytes new_operands new_bits distance_bits or_zero moved_from reaches first_place places_of name_of lookup_from decode_from prepend pairs sum_by le le_bytes width_of kind_of family_of sheet_of ends_at sheet_at sheet_ops ops_from on_line accepted may_follow is_missing find_name has_name fill type_row info_row line_at line_head line_types head_at types_at types_from with_type type_at name_at may_be_name keyed_at number_at number_read is_name_byte literal_at after type_code type_code_in type_names unsigned_value digits_value digit_value run same opens text above
meant_after g = meanings (into g) (length (carried g)) (records_in (decode_body (into g).types (largest_in (sheet_of g.sheet₂)) (carried g)))

-- `Jmp` means its target's index, 3; `LoadText` the text "a,b"
unfoldable expected : List Meaning
unfolding text
expected =
    record { name = text "LoadByte"; operands = record { family = 1; value = number 1 } ∷ record { family = 2; value = number 7 } ∷ [] }
    ∷ record { name = text "Jmp"; operands = record { family = 4; value = target 3 } ∷ [] }
    ∷ record { name = text "LoadText"; operands = record { family = 1; value = number 1 } ∷ record { family = 3; value = string (text "a,b") } ∷ [] }
    ∷ record { name = text "Ret"; operands = record { family = 1; value = number 1 } ∷ [] }
    ∷ []

job_meant : meant job ≡ expected
unfolding meant job expected text
job_meant = refl

job_meant_after : meant_after job ≡ expected
unfolding meant_after job expected text
job_meant_after = refl
