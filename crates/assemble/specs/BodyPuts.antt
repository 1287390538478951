-- How an instruction of a text is written. Assumes nothing.
use Rattle.std.specs.Prelude.{◌≡◌, List, ◌∷◌, ℕ, ◌+◌, ◌≤◌, Result, Ok, Err}
use Rattle.lists.specs.Found.{Found}
use Rattle.lists.specs.Write.{Put}
use Rattle.spec_sheet.specs.Row.{length_of}
use Rattle.spec_inputs.specs.Context.{Context}
use Rattle.spec_hasm.specs.Split.{instruction_name, instruction_operands}
use Rattle.spec_hasm.specs.Line.{opcode_named}
use Rattle.spec_hasm.specs.Assemble.{Operands, row_of, found_in, operands_from}
use Rattle.spec_hasm.specs.Assemble.Operands.{written, refused_operand}
use Rattle.assemble.specs.declared.operands.BadOperand.{BadOperand}
use Rattle.assemble.specs.declared.operands.Place.{Place}

-- the opcode of the instruction s, and what its operands evaluate to at an offset
abbrev pub opcode_in : Context → List ℕ → ℕ
opcode_in e s = found_in (opcode_named e (instruction_name s))

abbrev pub operands_of : Context → (List ℕ → Found) → List ℕ → ℕ → Operands
operands_of e labels s offset = operands_from e labels offset 1 (row_of e (opcode_in e s)) (instruction_operands s)

-- the instruction s was written at a place: its opcode and its operands. No instruction has more than 65 bytes
pub record WholePut (e : Context) (labels : List ℕ → Found) (s : List ℕ) (place : Place) (out out' : List ℕ) (next : Place) : Type 0 where
  pub bytes : List ℕ
  pub operands : operands_of e labels s place.offset ≡ written bytes
  pub put : Put out place.k (opcode_in e s ∷ bytes) out' next.k
  pub offset : next.offset ≡ place.offset + length_of (row_of e (opcode_in e s))
  pub near : next.offset ≤ place.offset + 65

-- or an operand is refused ("then 6 to 12 by line and operand")
abbrev pub InstructionPut : Context → (List ℕ → Found) → List ℕ → Place → List ℕ → List ℕ → Result Place BadOperand → Type 0
InstructionPut e labels s place out out' (Ok next) = WholePut e labels s place out out' next
InstructionPut e labels s place out out' (Err bad) = operands_of e labels s place.offset ≡ refused_operand bad.fault bad.operand
