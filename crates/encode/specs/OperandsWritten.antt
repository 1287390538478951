-- What the operands of a record are written as. Assumes nothing.
use Rattle.std.specs.Prelude.{◌≡◌, List, ℕ}
use Rattle.lists.specs.Write.{Put}
use Rattle.answers.specs.declared.refusal.Refusal.TheVariants.{BadOperand}
use Rattle.answers.specs.declared.refusal.OperandFault.TheVariants.{Misfit}
use Rattle.spec_body.specs.Encode.{Operands}
use Rattle.spec_body.specs.Encode.Operands.{bytes, misfit}
use Rattle.std.specs.Prelude.{Result, Ok, Err}
use Rattle.answers.specs.declared.refusal.Refusal.{Refusal}

-- operands of record i that are encoded to x were written at `at`: the buffer was `out` and is `out'`, and r was answered
pub data Operanded (x : Operands) (i : ℕ) (out : List ℕ) (at : ℕ) (out' : List ℕ) (r : Result ℕ Refusal) : Type 0 where
  whole : (bs : List ℕ) (k : ℕ) → x ≡ bytes bs → r ≡ Ok k → Put out at bs out' k → Operanded x i out at out' r
  misfits : (q : ℕ) → x ≡ misfit q → r ≡ Err (BadOperand Misfit i q) → Operanded x i out at out' r
