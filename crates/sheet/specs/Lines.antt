-- The answers of the functions that read a sheet's opcode lines. Assumes nothing.
use Rattle.std.specs.Prelude.{ℕ, ◌-◌, List, ◌++◌, length, replicate, Option, Some, None}
use Rattle.spec_sheet.specs.Line as spec
use Rattle.spec_sheet.specs.Line.TypesRead.{types, no_types}
use Rattle.spec_sheet.specs.Line.HeadRead.{head, no_head}
use Rattle.spec_sheet.specs.Line.LineRead.{line, no_line}
use Rattle.spec_sheet.specs.Line.{type_row, info_row}
use Rattle.sheet.specs.declared.line.Types.{Types}
use Rattle.sheet.specs.declared.line.Line.{Line}
use Rattle.sheet.specs.declared.line.Head.{Head}

-- eight type codes of a list of at most eight
abbrev pub eight : List ℕ → List ℕ
eight cs = cs ++ replicate (8 - length cs) 0

unfoldable pub types_of : spec.TypesRead → Option Types
types_of (types cs at) = Some (record { row = eight cs; count = length cs; next = at })
types_of no_types = None

-- number and name of an opcode line
unfoldable pub head_of : spec.HeadRead → Option Head
head_of (head code start size at) = Some (record { code = code; start = start; size = size; next = at })
head_of no_head = None

-- an opcode line: the opcode, its two rows and the place behind it
unfoldable pub line_of : spec.LineRead → Option Line
line_of (line o at) = Some (record { code = o.code; row = type_row o; info = info_row o; next = at })
line_of no_line = None
