-- An opcode sheet (document 01, 'Opcode sheet'). Assumes nothing.
use Rattle.std.specs.Prelude.{ℕ, zero, suc, ◌+◌, ◌-◌, ◌^◌, Bool, true, false, List, [], ◌∷◌, ◌++◌, eqb, leb, ltb, length, take, set, replicate}
use Rattle.lists.specs.Choice.{pick, both}
use Rattle.lists.specs.Scan.{same}
use Rattle.lists.specs.Text.{text}
use Rattle.lists.specs.Found.{Found}
use Rattle.lists.specs.Found.Found.{found, missing}
use Rattle.spec_sheet.specs.Scan.{after, keyed_at, line_end}
use Rattle.spec_sheet.specs.Line.{Op, LineRead, line_at, type_row, info_row, op_name, name_size, name_in}
use Rattle.spec_sheet.specs.Line.LineRead.{line, no_line}

-- the rows of 256 opcodes, where those of a list are filled in; "gaps below the largest opcode become "<invalid>" with no operands"
unfoldable pub fill : (Op → List ℕ) → List (List ℕ) → List Op → List (List ℕ)
fill row rows [] = rows
fill row rows (o ∷ ops) = fill row (set rows o.code (row o)) ops

abbrev pub no_type_rows : List (List ℕ)
no_type_rows = replicate 256 (replicate 8 0)

abbrev pub no_info_rows : List (List ℕ)
no_info_rows = replicate 256 (replicate 4 0)

-- "at most eight operand types for each of 256 opcodes": the type codes by opcode
abbrev pub type_rows : List Op → List (List ℕ)
type_rows ops = fill type_row no_type_rows ops

-- operand count, jump mark, start and length of the name, by opcode; a length of 0 marks a gap
abbrev pub info_rows : List Op → List (List ℕ)
info_rows ops = fill info_row no_info_rows ops

-- a row of the latter has this name in the text s
unfoldable pub has_name : List ℕ → List ℕ → List ℕ → Bool
has_name s name row = both (ltb 0 (name_size row)) (same (name_in s row) name)

-- the first opcode, counted from k, that has a name
unfoldable pub find_name : List ℕ → List ℕ → ℕ → List (List ℕ) → Found
find_name s name k [] = missing
find_name s name k (row ∷ rows) =
    let rest = find_name s name (suc k) rows in
    pick (has_name s name row) (found k) rest

-- no opcode has a name
unfoldable pub is_missing : Found → Bool
is_missing (found k) = false
is_missing missing = true

-- a number and name may follow those in the rows: "opcodes 0 to 255, rising", so none below `least`, and "Names differ"
unfoldable pub may_follow : List ℕ → ℕ → List (List ℕ) → ℕ → List ℕ → Bool
may_follow s least rows code name = both (leb least code) (is_missing (find_name s name 0 (take least rows)))

-- a line that was read, where its opcode may follow those in the rows
unfoldable pub accepted : List ℕ → ℕ → List (List ℕ) → LineRead → LineRead
accepted s least rows (line o at) = pick (may_follow s least rows o.code (op_name s o)) (line o at) no_line
accepted s least rows no_line = no_line

-- what follows a line, and what is answered where there is none
unfoldable pub on_line : {A : Type 0} → LineRead → A → (Op → ℕ → A) → A
on_line (line o at) failed then = then o at
on_line no_line failed then = failed

-- the opcode lines that were read and the place behind them, or how many were before the first malformed one
pub data OpsRead : Type 0 where
  all_read : List Op → ℕ → OpsRead
  fault_after : ℕ → OpsRead

-- n opcode lines behind those seen, with no opcode below `least`
unfoldable pub ops_from : ℕ → List ℕ → ℕ → ℕ → List Op → OpsRead
ops_from zero s at least seen = all_read seen at
ops_from (suc n) s at least seen =
    on_line (accepted s least (info_rows seen) (line_at s at)) (fault_after (length seen)) λ o b.
    ops_from n s b (suc o.code) (seen ++ (o ∷ []))

-- a sheet: its version and opcodes
pub record Sheet : Type 0 where
  pub version : ℕ
  pub opcodes : List Op

-- one more than the largest opcode: the opcodes rise, so that is the last one's
unfoldable pub above : ℕ → List Op → ℕ
above n [] = n
above n (o ∷ os) = above (suc o.code) os

-- the largest opcode
abbrev pub largest : List Op → ℕ
largest os = above 0 os - 1

-- a sheet and the place behind it, or the line that is malformed, from 1
pub data SheetRead : Type 0 where
  sheet : Sheet → ℕ → SheetRead
  malformed : ℕ → SheetRead

unfoldable pub sheet_ops : ℕ → OpsRead → SheetRead
sheet_ops version (all_read os at) = sheet (record { version = version; opcodes = os }) at
sheet_ops version (fault_after n) = malformed (3 + n)

-- "`version=V` (u32), `count=N` (1 to 256), then N lines"; "A missing line is 1 where it would stand"
unfoldable pub sheet_at : List ℕ → ℕ → SheetRead
sheet_at s at =
    after (keyed_at (text "version=") (2 ^ 32 - 1) line_end s at) (malformed 1) λ version a.
    after (keyed_at (text "count=") 256 line_end s a) (malformed 2) λ count b.
    pick (eqb count 0) (malformed 2) (sheet_ops version (ops_from count s b 0 []))

-- a text that is a sheet and nothing else: "a line too many is 1"
unfoldable pub ends_at : ℕ → SheetRead → SheetRead
ends_at end (sheet sh at) = pick (eqb at end) (sheet sh at) (malformed (3 + length sh.opcodes))
ends_at end (malformed k) = malformed k

unfoldable pub sheet_of : List ℕ → SheetRead
sheet_of s = ends_at (length s) (sheet_at s 0)
