-- What is to be done with an operand, by its types under both sheets. Assumes nothing.
use Rattle.std.specs.Prelude.{◌≡◌, Bool, true, false, not, List, [], ◌∷◌, ℕ, ◌+◌, ◌<◌, ◌≤◌, Option, None, Some, eqb, leb, length, drop, get_or}
use Rattle.lists.specs.Choice.{pick, both, within}
use Rattle.spec_sheet.specs.Row.{length_of}
use Rattle.spec_sheet.specs.Types.{width_of, family_of, reg_family, uint_family, string_family, addr_family}
use Rattle.carry.specs.declared.plans.Action.{Action}
use Rattle.carry.specs.declared.plans.Action.TheVariants.{Keeps, Number, String, Addr, OtherFamily}
use Rattle.carry.specs.declared.plans.Plan.{Plan}
use Rattle.carry.specs.declared.opcodes.OpcodeRow.{OpcodeRow}
use Rattle.carry.specs.declared.opcodes.State.TheVariants.{Copied}
use Rattle.carry.specs.EmptyRow.{empty}

-- what is done with an operand of type c under the first sheet and d under the second
unfoldable pub action_of : ℕ → ℕ → Action
action_of c d =
    pick (not (eqb (family_of c) (family_of d))) OtherFamily
    (pick (eqb (family_of c) string_family) String
    (pick (eqb (family_of c) addr_family) Addr
    (pick (both (not (eqb c d)) (within reg_family uint_family (family_of c))) Number Keeps)))

unfoldable pub is_kept : Action → Bool
is_kept Keeps = true
is_kept Number = false
is_kept String = false
is_kept Addr = false
is_kept OtherFamily = false

-- an operand has one type under both sheets and keeps its bytes
abbrev pub keeps_type : ℕ → ℕ → Bool
keeps_type c d = both (eqb c d) (is_kept (action_of c d))

-- so do all operands of these types
unfoldable pub keeps_all : List ℕ → List ℕ → Bool
keeps_all [] ds = true
keeps_all (c ∷ cs) ds = both (keeps_type c (get_or ds 0 0)) (keeps_all cs (drop 1 ds))

-- an instruction of at most eight bytes keeps all of them but its opcode
abbrev pub copied : List ℕ → List ℕ → Bool
copied row row' = both (leb (length_of row) 8) (keeps_all row row')

-- the plan of an operand of these types, which is one
abbrev pub planned : ℕ → ℕ → Plan
planned c d = record { action = action_of c d; old_width = width_of c; new_width = width_of d }

-- none where there is no operand
abbrev pub plan_of : ℕ → ℕ → Option Plan
plan_of c d = pick (eqb c 0) None (Some (planned c d))

-- a plan of some operand
pub record IsPlan (plan : Plan) : Type 0 where
  pub c : ℕ
  pub d : ℕ
  pub is : plan ≡ planned c d

-- the plans of the operands of an opcode, by its rows of types
unfoldable pub plan_row : List ℕ → List ℕ → List (Option Plan)
plan_row [] ds = []
plan_row (c ∷ cs) ds = plan_of c (get_or ds 0 0) ∷ plan_row cs (drop 1 ds)

-- plans that are made of two rows of eight
pub record RowPlanned (row row' : List ℕ) (plans : List (Option Plan)) : Type 0 where
  pub are : plans ≡ plan_row row row'
  pub size : length row ≡ 8
  pub size' : length row' ≡ 8

-- those of an instruction at a place of a body that has all its bytes
pub record Planning (plans : List (Option Plan)) (s : List ℕ) (at : ℕ) : Type 0 where
  pub row : List ℕ
  pub row' : List ℕ
  pub planned : RowPlanned row row' plans
  pub room : at + length_of row ≤ length s

-- and what the row of its opcode says of it
pub record Instruction (row : OpcodeRow) (plans : List (Option Plan)) (s : List ℕ) (at : ℕ) : Type 0 where
  pub planning : Planning plans s at
  pub state : row.state ≡ Copied → copied planning.row planning.row' ≡ true
  pub known : row.opcode < 256
  pub size : row.length ≡ length_of planning.row

-- those of the opcodes up to the largest, whose rows say their opcodes in the second sheet
abbrev pub Plans : List (List ℕ) → List (List ℕ) → List OpcodeRow → ℕ → List (List (Option Plan)) → Type 0
Plans types types₂ rows last plans =
    (op : ℕ) → op < 256 → op ≤ last → RowPlanned (get_or types op []) (get_or types₂ (get_or rows op empty).opcode []) (get_or plans op [])
