-- The answers of the functions that read a whole sheet. Assumes nothing.
use Rattle.std.specs.Prelude.{ℕ, List, length, Result, Ok, Err}
use Rattle.answers.specs.declared.refusal.Refusal.{Refusal}
use Rattle.answers.specs.declared.refusal.Refusal.TheVariants.{Malformed}
use Rattle.spec_sheet.specs.Sheet as spec
use Rattle.spec_sheet.specs.Sheet.{type_rows, info_rows, no_type_rows, no_info_rows, above, largest}
use Rattle.spec_sheet.specs.Sheet.OpsRead.{all_read, fault_after}
use Rattle.spec_sheet.specs.Sheet.SheetRead.{sheet, malformed}
use Rattle.sheet.specs.declared.opcode.Ops.{Ops}
use Rattle.sheet.specs.declared.opcode.SheetRead.{SheetRead}

-- the opcode lines that were read, or how many were before a malformed one
unfoldable pub ops_of : spec.OpsRead → Result Ops ℕ
ops_of (all_read os at) = Ok (record { above = above 0 os; end = at })
ops_of (fault_after n) = Err n

-- what reading a sheet answers, and the two tables afterwards; a malformed sheet leaves them zero
unfoldable pub sheet_answer : spec.SheetRead → Result SheetRead Refusal
sheet_answer (sheet sh at) = Ok (record { version = sh.version; count = length sh.opcodes; largest = largest sh.opcodes; end = at })
sheet_answer (malformed k) = Err (Malformed k)

unfoldable pub types_in : spec.SheetRead → List (List ℕ)
types_in (sheet sh at) = type_rows sh.opcodes
types_in (malformed k) = no_type_rows

unfoldable pub infos_in : spec.SheetRead → List (List ℕ)
infos_in (sheet sh at) = info_rows sh.opcodes
infos_in (malformed k) = no_info_rows
