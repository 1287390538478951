-- The lines of a job (document 01, 'Around the core'). Assumes nothing.
use Rattle.std.specs.Prelude.{List, ℕ, ◌+◌, ◌-◌, eqb, length}
use Rattle.lists.specs.Choice.{pick}
use Rattle.lists.specs.Text.{text}
use Rattle.spec_sheet.specs.Line.{Op}
use Rattle.spec_sheet.specs.Scan.{after, literal_at}
use Rattle.spec_sheet.specs.Sheet.{SheetRead, sheet_at}
use Rattle.spec_sheet.specs.Sheet.SheetRead.{sheet, malformed}
use Rattle.spec_job.specs.Table.{TableRead, on_hex, keyed_hex_at, table_at}
use Rattle.spec_job.specs.Table.TableRead.{table, fault_after}

-- the inputs as they stand in a job: the sheet's opcodes, whose names are places of the job, and its string table
pub record JobInputs : Type 0 where
  pub opcodes : List Op
  pub bytes : List ℕ
  pub ends : List ℕ

-- the inputs, the place behind them and the number of the line there; or the malformed line, "numbered in the job"
pub data InputsRead : Type 0 where
  inputs : JobInputs → ℕ → ℕ → InputsRead
  bad_inputs : ℕ → InputsRead

unfoldable pub with_table : List Op → ℕ → TableRead → InputsRead
with_table os line (table bytes ends at) =
    inputs (record { opcodes = os; bytes = bytes; ends = ends }) at (line + 1 + length ends)
with_table os line (fault_after k) = bad_inputs (line + k)

-- a sheet whose first line is the job's line `line`, then strings
unfoldable pub with_sheet : List ℕ → ℕ → SheetRead → InputsRead
with_sheet s line (sheet sh at) = with_table sh.opcodes (line + 2 + length sh.opcodes) (table_at s at)
with_sheet s line (malformed k) = bad_inputs (line + k - 1)

abbrev pub inputs_at : List ℕ → ℕ → ℕ → InputsRead
inputs_at s at line = with_sheet s line (sheet_at s at)

-- what a job asks for: its inputs and body; its inputs and where its text starts; two of them and its body
pub data JobRead : Type 0 where
  list_job : JobInputs → List ℕ → JobRead
  assemble_job : JobInputs → ℕ → JobRead
  carry_job : JobInputs → JobInputs → List ℕ → JobRead
  bad_line : ℕ → JobRead

unfoldable pub on_inputs : InputsRead → (JobInputs → ℕ → ℕ → JobRead) → JobRead
on_inputs (inputs e at line) then = then e at line
on_inputs (bad_inputs line) then = bad_line line

-- `body=` and hex, and nothing behind that line: "a byte behind `body`'s line, is 1"
unfoldable pub with_body : List ℕ → ℕ → ℕ → (List ℕ → JobRead) → JobRead
with_body s at line then =
    on_hex (keyed_hex_at (text "body=") s at) (bad_line line) λ bs b.
    pick (eqb b (length s)) (then bs) (bad_line (line + 1))

unfoldable pub read_list : List ℕ → ℕ → JobRead
read_list s at = on_inputs (inputs_at s at 2) λ e b line. with_body s b line (list_job e)

-- "`job=assemble` has `text=` instead of `body`, the text starting on the next line"
unfoldable pub with_text : List ℕ → ℕ → ℕ → JobInputs → JobRead
with_text s at line e = after (literal_at (text "text=\n") s at) (bad_line line) λ _ b. assemble_job e b

unfoldable pub read_assemble : List ℕ → ℕ → JobRead
read_assemble s at = on_inputs (inputs_at s at 2) λ e b line. with_text s b line e

-- "`job=carry` puts the second sheet and strings before `body`"
unfoldable pub with_second : List ℕ → ℕ → ℕ → JobInputs → JobRead
with_second s at line e = on_inputs (inputs_at s at line) λ f b next. with_body s b next (carry_job e f)

unfoldable pub read_carry : List ℕ → ℕ → JobRead
read_carry s at = on_inputs (inputs_at s at 2) λ e b line. with_second s b line e

-- a job's first line says which it is
unfoldable pub read_word : List ℕ → List ℕ → (List ℕ → ℕ → JobRead) → JobRead → JobRead
read_word word s read other = after (literal_at word s 0) other λ _ at. read s at

unfoldable pub read_job : List ℕ → JobRead
read_job s =
    read_word (text "job=list\n") s read_list
    (read_word (text "job=assemble\n") s read_assemble
    (read_word (text "job=carry\n") s read_carry (bad_line 1)))
