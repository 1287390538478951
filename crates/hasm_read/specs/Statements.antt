-- What a line is, by places of it, as its definition gives it. Assumes nothing.
use Rattle.std.specs.Prelude.{◌≡◌, ℕ, ◌+◌, ◌-◌, ◌≤◌, List, length}
use Rattle.lists.specs.Scan.{part}
use Rattle.spec_hasm.specs.Line as definition
use Rattle.spec_hasm.specs.Line.Statement.{nothing, labelled, instruction}
use Rattle.hasm_read.specs.declared.statement.Statement.{Statement}
use Rattle.hasm_read.specs.declared.statement.Statement.TheVariants.{Nothing, Label, Instruction}

-- "A label is held by its text part": n bytes from a on, without the colon; an instruction stands from a to b
pub data StatementIn (x : definition.Statement) (line : List ℕ) (r : Statement) : Type 0 where
  none : x ≡ nothing → r ≡ Nothing → StatementIn x line r
  label : (a n : ℕ) → x ≡ labelled (part line a n) → r ≡ Label a n → a + n ≤ length line → StatementIn x line r
  code : (a b : ℕ) → x ≡ instruction (part line a (b - a)) → r ≡ Instruction a b → a ≤ b → b ≤ length line → StatementIn x line r
