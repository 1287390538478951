-- A line of a sheet that says one opcode: `op=18 name=Jmp jump=1 types=Addr8`. Assumes nothing.
use Rattle.std.specs.Prelude.{ℕ, zero, suc, ◌+◌, ◌-◌, List, [], ◌∷◌, ◌++◌, eqb, length, get_or, replicate}
use Rattle.lists.specs.Choice.{pick}
use Rattle.lists.specs.Scan.{part}
use Rattle.lists.specs.Text.{text}
use Rattle.spec_sheet.specs.Scan.{Step, after, literal_at, keyed_at, name_at, type_at, line_end}

-- an opcode: its number, where its name stands in the text and how long it is, its jump mark and its operand types
pub record Op : Type 0 where
  pub code : ℕ
  pub start : ℕ
  pub size : ℕ
  pub jump : ℕ
  pub types : List ℕ

-- an opcode's name in the text of its sheet
abbrev pub op_name : List ℕ → Op → List ℕ
op_name s o = part s o.start o.size

-- operand types that were read and the place behind them
pub data TypesRead : Type 0 where
  types : List ℕ → ℕ → TypesRead
  no_types : TypesRead

unfoldable pub with_type : ℕ → TypesRead → TypesRead
with_type c (types cs at) = types (c ∷ cs) at
with_type c no_types = no_types

-- one type or more, with commas between, at most `most` of them
unfoldable pub types_from : ℕ → List ℕ → ℕ → TypesRead
types_from zero s at = no_types
types_from (suc most) s at =
    after (type_at s at) no_types λ c b.
    let more = with_type c (types_from most s (b + 1)) in
    pick (eqb (get_or s b 0) 44) more (types (c ∷ []) b)

-- "`types=-` for none", "at most eight operand types"
unfoldable pub types_at : List ℕ → ℕ → TypesRead
types_at s at = pick (eqb (get_or s at 0) 45) (types [] (at + 1)) (types_from 8 s at)

-- number and name: where the name starts, and where the reading stands behind it
pub data HeadRead : Type 0 where
  head : ℕ → ℕ → ℕ → ℕ → HeadRead
  no_head : HeadRead

unfoldable pub head_at : List ℕ → ℕ → HeadRead
head_at s at =
    after (keyed_at (text "op=") 255 (text " name=") s at) no_head λ code start.
    after (name_at s start) no_head λ size b.
    head code start size b

-- the jump mark, 0 or 1
abbrev pub jump_at : List ℕ → ℕ → Step
jump_at s at = keyed_at (text " jump=") 1 (text " types=") s at

-- the line, or that it is malformed
pub data LineRead : Type 0 where
  line : Op → ℕ → LineRead
  no_line : LineRead

unfoldable pub line_types : List ℕ → ℕ → ℕ → ℕ → ℕ → TypesRead → LineRead
line_types s code start size jump (types cs at) =
    after (literal_at line_end s at) no_line λ _ b.
    line (record { code = code; start = start; size = size; jump = jump; types = cs }) b
line_types s code start size jump no_types = no_line

unfoldable pub line_head : List ℕ → HeadRead → LineRead
line_head s (head code start size at) =
    after (jump_at s at) no_line λ jump a.
    line_types s code start size jump (types_at s a)
line_head s no_head = no_line

unfoldable pub line_at : List ℕ → ℕ → LineRead
line_at s at = line_head s (head_at s at)

-- an opcode's row of eight type codes, and its operand count, jump mark and name
unfoldable pub type_row : Op → List ℕ
type_row o = o.types ++ replicate (8 - length o.types) 0

unfoldable pub info_row : Op → List ℕ
info_row o = length o.types ∷ o.jump ∷ o.start ∷ o.size ∷ []

-- the numbers of such a row by their names, and the name that it points to in the text
abbrev pub jump_mark : List ℕ → ℕ
jump_mark row = get_or row 1 0

abbrev pub name_start : List ℕ → ℕ
name_start row = get_or row 2 0

abbrev pub name_size : List ℕ → ℕ
name_size row = get_or row 3 0

abbrev pub name_in : List ℕ → List ℕ → List ℕ
name_in s row = part s (name_start row) (name_size row)
