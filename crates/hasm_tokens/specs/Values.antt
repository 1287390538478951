-- A token's value, as the code answers it. Assumes nothing.
use Rattle.std.specs.Prelude.{ℕ, Result, Ok, Err}
use Rattle.answers.specs.declared.refusal.OperandFault.{OperandFault}
use Rattle.spec_hasm.specs.Token as definition
use Rattle.spec_hasm.specs.Token.Value.{value, refused}

-- the bits of a value, or what is wrong with the token
abbrev pub token_answer : definition.Value → Result ℕ OperandFault
token_answer (value n) = Ok n
token_answer (refused f) = Err f
