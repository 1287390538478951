-- What becomes of opcodes, row by row. Assumes nothing.
use mathlib.Core.Path.{◌≡◌}
use mathlib.Core.List.{List, []}
use Prim.Native.Nat.{ℕ, ◌≤◌, ◌<◌}
use native.Mathlib.Omega.{arith}
use Rattle.std.specs.Prelude.{None, Some}
use lib.ListN.{length, get_or}
use lib.Seq.{take_all}
use Rattle.lists.specs.Found.{Found}
use Rattle.slices.specs.Answers.{found_of}
use Rattle.spec_sheet.specs.Row.{length_of}
use Rattle.spec_sheet.specs.Sheet.{find_name}
use Rattle.spec_sheet.proofs.OwnNameLaws.{found_below}
use Rattle.spec_carry.specs.Passes.{or_zero}
use Rattle.carry.proofs.AnswerLaws.{was_found, was_missing}
use Rattle.carry.specs.Opcodes.{known_state, state_of, found_row}
use Rattle.carry.specs.declared.opcodes.OpcodeRow.{OpcodeRow}
use Rattle.carry.specs.declared.opcodes.State.{State}
use Rattle.carry.specs.declared.opcodes.State.TheVariants as state

-- an opcode that was found is below the number of rows
pub opcode_below : (s name : List ℕ) (rows : List (List ℕ)) (k : ℕ) → length rows ≡ 256 → Some k ≡ found_of (find_name s name 0 rows) → k < 256
opcode_below s name rows k l e =
    let h : length rows ≤ 256 = omega arith in
    found_below s name 256 rows k (rw (take_all 256 rows h) (was_found (find_name s name 0 rows) k e))

-- the row of an opcode that was found, and of one that was not
module _ (x : Found) (row : List ℕ) (types₂ : List (List ℕ)) where
  pub row_found : (k : ℕ) (state : State) (length₁ length₂ : ℕ) → Some k ≡ found_of x → state ≡ known_state row (get_or types₂ k []) → length₁ ≡ length_of row → length₂ ≡ length_of (get_or types₂ k [])
      → record { state = state; opcode = k; length = length₁; new_length = length₂ } ≡ found_row x row types₂
  unfolding state_of or_zero
  row_found k state length₁ length₂ e a b c = rw (was_found x k e, a, b, c)

  pub row_missing : (length₁ length₂ : ℕ) → None ≡ found_of x → length₁ ≡ length_of row → length₂ ≡ length_of (get_or types₂ 0 [])
      → record { state = state.Missing; opcode = 0; length = length₁; new_length = length₂ } ≡ found_row x row types₂
  unfolding state_of or_zero
  row_missing length₁ length₂ e b c = rw (was_missing x e, b, c)

-- the row of an opcode, whose numbers are small: a new opcode is one of 256, and no instruction has more than 65 bytes
pub record RowMade (f : ℕ → OpcodeRow) (op : ℕ) (row : OpcodeRow) : Type 0 where
  pub is : row ≡ f op
  pub opcode : row.opcode < 256
  pub new_length : row.new_length ≤ 65
