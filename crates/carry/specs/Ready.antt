-- What both passes over a body are given. Assumes nothing.
use Rattle.std.specs.Prelude.{◌≡◌, List, [], ℕ, ◌≤◌, Option, length, get_or}
use Rattle.limits.specs.Limits.{body_limit}
use Rattle.spec_inputs.specs.Context.{Context}
use Rattle.spec_body.specs.Decode.{decode_body}
use Rattle.spec_body.specs.Decode.Decoded.{decoded}
use Rattle.spec_carry.specs.Passes.{Carrying}
use Rattle.spec_carry.specs.Carry.{carrying}
use Rattle.carry.specs.Opcodes.{OpcodeRows, NewOpcodes, NewLengths}
use Rattle.carry.specs.Marks.{Marked}
use Rattle.carry.specs.Plans.{Plans}
use Rattle.carry.specs.declared.plans.Plan.{Plan}
use Rattle.carry.specs.declared.opcodes.OpcodeRow.{OpcodeRow}

-- behind a code 0 a row has only zeros
abbrev pub ZerosBehind : List ℕ → Type 0
ZerosBehind row = (j k : ℕ) → j ≤ k → get_or row j 0 ≡ 0 → get_or row k 0 ≡ 0

-- two contexts with these type codes, the rows of the first one's opcodes, and what stands for the places of a body that decodes
-- and for the ids of the first table
pub record Ready (types types₂ : List (List ℕ)) (rows : List OpcodeRow) (last : ℕ) (s map ids : List ℕ) : Type 0 where
  pub from : Context
  pub into : Context
  pub types_are : from.types ≡ types
  pub types₂_are : into.types ≡ types₂
  pub rows_are : OpcodeRows from into last rows
  pub zeros : (op : ℕ) → ZerosBehind (get_or types op [])
  pub zeros₂ : (op : ℕ) → ZerosBehind (get_or types₂ op [])
  pub opcodes : NewOpcodes last rows
  pub lengths : NewLengths last rows
  pub few : length s ≤ body_limit
  pub records : List (List ℕ)
  pub decodes : decode_body types last s ≡ decoded records
  pub marked : Marked (carrying from into (length s) records) map ids

-- what is carried then
abbrev pub carrying_in : {types types₂ : List (List ℕ)} {rows : List OpcodeRow} {last : ℕ} {s map ids : List ℕ} → Ready types types₂ rows last s map ids → Carrying
carrying_in {s = s} g = carrying g.from g.into (length s) g.records

-- and a plan for each operand of each opcode
pub record Planned (plans : List (List (Option Plan))) (rows : List OpcodeRow) (s map ids : List ℕ) : Type 0 where
  pub types : List (List ℕ)
  pub types₂ : List (List ℕ)
  pub last : ℕ
  pub ready : Ready types types₂ rows last s map ids
  pub plans_are : Plans types types₂ rows last plans
