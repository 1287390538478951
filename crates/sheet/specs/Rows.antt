-- One opcode line, stored in the tables of a sheet. Assumes nothing.
use Rattle.std.specs.Prelude.{ℕ, List, set, Option, Some, None}
use Rattle.spec_sheet.specs.Line.{LineRead, type_row, info_row}
use Rattle.spec_sheet.specs.Line.LineRead.{line, no_line}
use Rattle.sheet.specs.declared.rows.StoredLine.{StoredLine}

-- an opcode line that was stored: the opcode and the place behind it, and the two tables
unfoldable pub turn_of : LineRead → Option StoredLine
turn_of (line o at) = Some (record { code = o.code; next = at })
turn_of no_line = None

unfoldable pub types_stored : LineRead → List (List ℕ) → List (List ℕ)
types_stored (line o at) rows = set rows o.code (type_row o)
types_stored no_line rows = rows

unfoldable pub infos_stored : LineRead → List (List ℕ) → List (List ℕ)
infos_stored (line o at) rows = set rows o.code (info_row o)
infos_stored no_line rows = rows
