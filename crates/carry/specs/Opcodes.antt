-- What becomes of each opcode of the first sheet. Assumes nothing.
use Rattle.std.specs.Prelude.{◌≡◌, List, [], ℕ, ◌<◌, ◌≤◌, eqb, get_or}
use Rattle.lists.specs.Choice.{pick}
use Rattle.lists.specs.Found.{Found}
use Rattle.lists.specs.Found.Found.{found, missing}
use Rattle.spec_sheet.specs.Row.{length_of, count_of}
use Rattle.spec_inputs.specs.Context.{Context}
use Rattle.spec_carry.specs.Passes.{opcode_into, or_zero}
use Rattle.carry.specs.EmptyRow.{empty}
use Rattle.carry.specs.Plans.{copied}
use Rattle.carry.specs.declared.opcodes.OpcodeRow.{OpcodeRow}
use Rattle.carry.specs.declared.opcodes.State.{State}
use Rattle.carry.specs.declared.opcodes.State.TheVariants.{Missing, OtherCount, Known, Copied}

-- of a name that the second sheet has: whether it counts other operands, or its instructions are copied
abbrev pub known_state : List ℕ → List ℕ → State
known_state row new = pick (eqb (count_of row) (count_of new)) (pick (copied row new) Copied Known) OtherCount

-- and of one that it lacks
unfoldable pub state_of : Found → List ℕ → List ℕ → State
state_of (found k) row new = known_state row new
state_of missing row new = Missing

-- the row of an opcode with these types, whose name is found so in the second sheet: its state, its opcode there, and the
-- instruction's length under both
abbrev pub found_row : Found → List ℕ → List (List ℕ) → OpcodeRow
found_row f row types₂ =
    let new = get_or types₂ (or_zero f) [] in
    record { state = state_of f row new; opcode = or_zero f; length = length_of row; new_length = length_of new }

abbrev pub opcode_row : Context → Context → ℕ → OpcodeRow
opcode_row a b op = found_row (opcode_into a b op) (get_or a.types op []) b.types

-- those of the opcodes up to the largest
abbrev pub OpcodeRows : Context → Context → ℕ → List OpcodeRow → Type 0
OpcodeRows a b last rows = (op : ℕ) → op < 256 → op ≤ last → get_or rows op empty ≡ opcode_row a b op

-- a new opcode is one of 256
abbrev pub NewOpcodes : ℕ → List OpcodeRow → Type 0
NewOpcodes last rows = (op : ℕ) → op < 256 → op ≤ last → (get_or rows op empty).opcode < 256

-- no instruction of the second sheet has more than 65 bytes: its opcode, and eight operands of 8 at most
abbrev pub NewLengths : ℕ → List OpcodeRow → Type 0
NewLengths last rows = (op : ℕ) → op < 256 → op ≤ last → (get_or rows op empty).new_length ≤ 65

-- rows of some two contexts
pub record RowsKnown (last : ℕ) (rows : List OpcodeRow) : Type 0 where
  pub from : Context
  pub into : Context
  pub are : OpcodeRows from into last rows
  pub lengths : NewLengths last rows
