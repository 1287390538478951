-- Sheets that are taken, and one refused for each kind of fault, by computing the definitions. Assumes nothing.
use mathlib.Core.Path.{◌≡◌, refl}
use mathlib.Core.List.{List, [], ◌∷◌}
use Prim.Native.Nat.{ℕ}
use mathlib.Core.Bool.{Bool, true}
use lib.ListN.{length}
use Rattle.lists.specs.Choice.{both}
use Prim.Native.String.{String}
use Rattle.lists.specs.Text.{text}
use Rattle.lists.specs.Scan.{run, same, opens}
use Rattle.spec_numbers.specs.Parse.{digit_value, digits_value, unsigned_value}
use Rattle.spec_sheet.specs.Types.{type_names, type_code_in, type_code}
use Rattle.spec_sheet.specs.Scan.{after, literal_at, is_name_byte, number_read, number_at, keyed_at, may_be_name, name_at, type_at}
use Rattle.spec_sheet.specs.Line.{with_type, types_from, types_at, head_at, line_types, line_head, line_at, type_row, info_row}
use Rattle.spec_sheet.specs.Sheet.{fill, has_name, find_name, is_missing, may_follow, accepted, on_line, ops_from, sheet_ops, sheet_at, ends_at, sheet_of, SheetRead, above, largest}
use Rattle.spec_sheet.specs.Sheet.SheetRead.{sheet, malformed}

-- what a sheet's reading evaluates to: 0 and its version, largest opcode and count, or the malformed line
unfoldable pub outcome : SheetRead → List ℕ
outcome (sheet sh at) = 0 ∷ sh.version ∷ largest sh.opcodes ∷ length sh.opcodes ∷ []
outcome (malformed k) = k ∷ []

unfoldable pub outcome_of : List ℕ → List ℕ
unfolding outcome sheet_of ends_at sheet_at sheet_ops ops_from on_line accepted may_follow is_missing find_name has_name fill type_row info_row line_at line_head line_types head_at types_at types_from with_type type_at name_at may_be_name keyed_at number_at number_read is_name_byte literal_at after type_code type_code_in type_names unsigned_value digits_value digit_value run same opens text above
outcome_of s = outcome (sheet_of s)

-- a text and what its reading evaluates to
pub record Trial : Type 0 where
  pub input : String
  pub expected : List ℕ

unfoldable pub passes : List Trial → Bool
unfolding outcome_of text same
passes [] = true
passes (t ∷ ts) = both (same (outcome_of (text t.input)) t.expected) (passes ts)

unfoldable pub trials : List Trial
trials =
    -- the sheet of document 01: version 1, opcodes 0 to 4, four lines
    record { input = "version=1\ncount=4\nop=0 name=LoadByte jump=0 types=Reg8,UInt8\nop=1 name=Jmp jump=1 types=Addr8\nop=2 name=LoadText jump=0 types=Reg8,UInt16S\nop=4 name=Ret jump=0 types=Reg8\n"; expected = 0 ∷ 1 ∷ 4 ∷ 4 ∷ [] } ∷
    -- one opcode without operands, at the far end
    record { input = "version=4294967295\ncount=1\nop=255 name=Z_9 jump=1 types=-\n"; expected = 0 ∷ 4294967295 ∷ 255 ∷ 1 ∷ [] } ∷
    -- eight operands
    record { input = "version=1\ncount=1\nop=0 name=A jump=0 types=Reg8,Reg32,UInt8,UInt16,UInt32,UInt8S,UInt16S,UInt32S\n"; expected = 0 ∷ 1 ∷ 0 ∷ 1 ∷ [] } ∷
    -- the other types
    record { input = "version=1\ncount=1\nop=7 name=A jump=0 types=Addr8,Addr32,Imm32,Double\n"; expected = 0 ∷ 1 ∷ 7 ∷ 1 ∷ [] } ∷
    -- a name of 48 characters
    record { input = "version=1\ncount=1\nop=0 name=AAAAAAAAAAAAAAAAAAAAAAAAAAAAAAAAAAAAAAAAAAAAAAAA jump=0 types=-\n"; expected = 0 ∷ 1 ∷ 0 ∷ 1 ∷ [] } ∷
    -- nothing at all: the first line is missing
    record { input = ""; expected = 1 ∷ [] } ∷
    -- a version past u32
    record { input = "version=4294967296\ncount=1\nop=0 name=A jump=0 types=Reg8\n"; expected = 1 ∷ [] } ∷
    -- no count line
    record { input = "version=1\n"; expected = 2 ∷ [] } ∷
    -- count 0
    record { input = "version=1\ncount=0\n"; expected = 2 ∷ [] } ∷
    -- count 257
    record { input = "version=1\ncount=257\nop=0 name=A jump=0 types=Reg8\n"; expected = 2 ∷ [] } ∷
    -- the last line feed is missing
    record { input = "version=1\ncount=1\nop=0 name=A jump=0 types=Reg8"; expected = 3 ∷ [] } ∷
    -- an empty line
    record { input = "version=1\ncount=1\n\nop=0 name=A jump=0 types=Reg8\n"; expected = 3 ∷ [] } ∷
    -- a carriage return
    record { input = "version=1\ncount=1\nop=0 name=A jump=0 types=Reg8\r\n"; expected = 3 ∷ [] } ∷
    -- a tab
    record { input = "version=1\ncount=1\nop=0\tname=A jump=0 types=Reg8\n"; expected = 3 ∷ [] } ∷
    -- a double space
    record { input = "version=1\ncount=1\nop=0  name=A jump=0 types=Reg8\n"; expected = 3 ∷ [] } ∷
    -- a trailing space
    record { input = "version=1\ncount=1\nop=0 name=A jump=0 types=Reg8 \n"; expected = 3 ∷ [] } ∷
    -- a sign
    record { input = "version=1\ncount=1\nop=+0 name=A jump=0 types=Reg8\n"; expected = 3 ∷ [] } ∷
    -- a leading zero
    record { input = "version=1\ncount=1\nop=00 name=A jump=0 types=Reg8\n"; expected = 3 ∷ [] } ∷
    -- a leading zero in the version
    record { input = "version=01\ncount=1\nop=0 name=A jump=0 types=Reg8\n"; expected = 1 ∷ [] } ∷
    -- opcode 256
    record { input = "version=1\ncount=1\nop=256 name=A jump=0 types=Reg8\n"; expected = 3 ∷ [] } ∷
    -- a jump mark of 2
    record { input = "version=1\ncount=1\nop=0 name=A jump=2 types=Reg8\n"; expected = 3 ∷ [] } ∷
    -- an unknown type
    record { input = "version=1\ncount=1\nop=0 name=A jump=0 types=Reg16\n"; expected = 3 ∷ [] } ∷
    -- nine types
    record { input = "version=1\ncount=1\nop=0 name=A jump=0 types=Reg8,Reg8,Reg8,Reg8,Reg8,Reg8,Reg8,Reg8,Reg8\n"; expected = 3 ∷ [] } ∷
    -- no types
    record { input = "version=1\ncount=1\nop=0 name=A jump=0 types=\n"; expected = 3 ∷ [] } ∷
    -- a comma at the end
    record { input = "version=1\ncount=1\nop=0 name=A jump=0 types=Reg8,\n"; expected = 3 ∷ [] } ∷
    -- a name of 49 characters
    record { input = "version=1\ncount=1\nop=0 name=AAAAAAAAAAAAAAAAAAAAAAAAAAAAAAAAAAAAAAAAAAAAAAAAA jump=0 types=-\n"; expected = 3 ∷ [] } ∷
    -- a name that opens with a digit
    record { input = "version=1\ncount=1\nop=0 name=1A jump=0 types=-\n"; expected = 3 ∷ [] } ∷
    -- a name that opens with a lower-case letter
    record { input = "version=1\ncount=1\nop=0 name=a jump=0 types=-\n"; expected = 3 ∷ [] } ∷
    -- a name that opens with Function
    record { input = "version=1\ncount=1\nop=0 name=FunctionX jump=0 types=-\n"; expected = 3 ∷ [] } ∷
    -- an empty name
    record { input = "version=1\ncount=1\nop=0 name= jump=0 types=-\n"; expected = 3 ∷ [] } ∷
    -- opcodes that do not rise
    record { input = "version=1\ncount=2\nop=0 name=A jump=0 types=Reg8\nop=0 name=B jump=0 types=-\n"; expected = 4 ∷ [] } ∷
    -- a name twice
    record { input = "version=1\ncount=2\nop=0 name=A jump=0 types=Reg8\nop=1 name=A jump=0 types=-\n"; expected = 4 ∷ [] } ∷
    -- a line missing
    record { input = "version=1\ncount=2\nop=0 name=A jump=0 types=Reg8\n"; expected = 4 ∷ [] } ∷
    -- a line too many
    record { input = "version=1\ncount=1\nop=0 name=A jump=0 types=Reg8\nop=1 name=B jump=0 types=-\n"; expected = 4 ∷ [] } ∷
    -- a byte behind the last line
    record { input = "version=1\ncount=1\nop=0 name=A jump=0 types=Reg8\n "; expected = 4 ∷ [] } ∷
    []

pub sheet_trials : passes trials ≡ true
unfolding passes trials outcome_of text same
sheet_trials = refl
