-- What a listing needs of each opcode. Assumes nothing.
use Rattle.std.specs.Prelude.{◌≡◌, Bool, true, false, not, List, [], ◌∷◌, ◌++◌, ℕ, ◌+◌, ◌≤◌, ◌<◌, eqb, get_or, drop}
use Rattle.std.specs.List.{list_any}
use Rattle.lists.specs.Choice.{pick, both}
use Rattle.spec_sheet.specs.Line.{jump_mark, name_start, name_size}
use Rattle.spec_sheet.specs.Types.{family_of, addr_family, addr8}
use Rattle.spec_sheet.specs.Row.{length_of}
use Rattle.spec_body.specs.Record.{offset_of, opcode_of, pairs_of}
use Rattle.spec_listing.specs.Labels.{ends_flow, targets}
use Rattle.list_labels.specs.FlowNames.{name_shown}
use Rattle.list_labels.specs.declared.opcode_rows.Jump.{Jump}
use Rattle.list_labels.specs.declared.opcode_rows.Jump.TheVariants.{NoTarget, Short, Other}
use Rattle.list_labels.specs.declared.opcode_rows.OpcodeRow.{OpcodeRow}

-- one of these types is an Addr
abbrev pub has_addr : List ℕ → Bool
has_addr codes = list_any (λ c. eqb (family_of c) addr_family) codes

-- an Addr8 stands right behind the opcode, and it is the only Addr
unfoldable pub is_short : List ℕ → Bool
is_short codes = both (eqb (get_or codes 0 0) addr8) (not (has_addr (drop 1 codes)))

-- no targets; a jump whose one target is that Addr8's; any other jump with an Addr
abbrev pub jump_of : ℕ → List ℕ → Jump
jump_of mark codes = pick (both (eqb mark 1) (has_addr codes)) (pick (is_short codes) Short Other) NoTarget

abbrev pub is_short_jump : Jump → Bool
is_short_jump NoTarget = false
is_short_jump Short = true
is_short_jump Other = false

abbrev pub is_other_jump : Jump → Bool
is_other_jump NoTarget = false
is_other_jump Short = false
is_other_jump Other = true

-- an opcode's row: the length of its instruction, whether its name ends the flow, and how its targets are found
abbrev pub opcode_row : List ℕ → List ℕ → List ℕ → OpcodeRow
opcode_row sheet codes info =
    record { size = length_of codes; ends_flow = ends_flow (name_shown sheet (name_start info) (name_size info)); jump = jump_of (jump_mark info) codes }

-- a row that three bytes hold: the length, 1 where the name ends the flow, and 0 where there are no targets, 1 for a short jump, else
-- any other
abbrev pub jump_in : ℕ → Jump
jump_in kind = pick (eqb kind 0) NoTarget (pick (eqb kind 1) Short Other)

abbrev pub row_in : List ℕ → OpcodeRow
row_in bytes = record { size = get_or bytes 0 0; ends_flow = eqb (get_or bytes 1 0) 1; jump = jump_in (get_or bytes 2 0) }

-- that of no opcode
abbrev pub no_row : OpcodeRow
no_row = record { size = 0; ends_flow = false; jump = NoTarget }

-- those of all opcodes up to the largest
abbrev pub OpcodeRows : List ℕ → List (List ℕ) → List (List ℕ) → ℕ → List OpcodeRow → Type 0
OpcodeRows sheet types infos last rows = (o : ℕ) → o < 256 → o ≤ last → get_or rows o no_row ≡ opcode_row sheet (get_or types o []) (get_or infos o [])

-- a row has the length of its instruction, and a short jump is one; whatever else it says of labels
pub record RowFits (codes : List ℕ) (row : OpcodeRow) : Type 0 where
  pub size : row.size ≡ length_of codes
  pub short : row.jump ≡ Short → is_short codes ≡ true

abbrev pub RowsFit : List (List ℕ) → ℕ → List OpcodeRow → Type 0
RowsFit types last rows = (o : ℕ) → o < 256 → o ≤ last → RowFits (get_or types o []) (get_or rows o no_row)

-- a sheet's type codes and rows
pub record Opcodes : Type 0 where
  pub types : List (List ℕ)
  pub rows : List OpcodeRow

abbrev pub opcodes_of : List (List ℕ) → List OpcodeRow → Opcodes
opcodes_of types rows = record { types = types; rows = rows }

-- the label offsets of one instruction by its opcode's row: the one behind it, and its targets
abbrev pub targets_by : Jump → List ℕ → List ℕ
targets_by NoTarget targets = []
targets_by Short targets = targets
targets_by Other targets = targets

abbrev pub labels_by : OpcodeRow → ℕ → List ℕ → List ℕ
labels_by row next targets = pick row.ends_flow (next ∷ []) [] ++ targets_by row.jump targets

-- those of a record, and of all
unfoldable pub record_labels : Opcodes → List ℕ → List ℕ
record_labels o r = labels_by (get_or o.rows (opcode_of r) no_row) (offset_of r + get_or r 2 0) (targets (offset_of r) (get_or o.types (opcode_of r) []) (pairs_of r))

unfoldable pub row_labels : Opcodes → List (List ℕ) → List ℕ
row_labels o [] = []
row_labels o (r ∷ rs) = record_labels o r ++ row_labels o rs
