-- How the operands of an instruction are written. Assumes nothing.
use Rattle.std.specs.Prelude.{◌≡◌, List, ℕ, Result, Ok, Err}
use Rattle.lists.specs.Write.{Put}
use Rattle.spec_hasm.specs.Assemble as definition
use Rattle.spec_hasm.specs.Assemble.Operands.{written, refused_operand}
use Rattle.assemble.specs.declared.operands.BadOperand.{BadOperand}

-- the operands x were written at k, all their bytes
pub record AllPut (x : definition.Operands) (out : List ℕ) (k : ℕ) (out' : List ℕ) (next : ℕ) : Type 0 where
  pub bytes : List ℕ
  pub whole : x ≡ written bytes
  pub put : Put out k bytes out' next

-- or one is refused ("then 6 to 12 by line and operand")
abbrev pub OperandsPut : definition.Operands → List ℕ → ℕ → List ℕ → Result ℕ BadOperand → Type 0
OperandsPut x out k out' (Ok next) = AllPut x out k out' next
OperandsPut x out k out' (Err bad) = x ≡ refused_operand bad.fault bad.operand
