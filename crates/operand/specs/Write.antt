-- An operand from its value. Assumes nothing.
use Rattle.std.specs.Prelude.{ℕ, Option, Some, None}
use Rattle.spec_body.specs.Encode.{Fitted, encode_operand}
use Rattle.spec_body.specs.Encode.Fitted.{fits, no_fit}
use Rattle.operand.specs.Value.{kind_of_value, bits_of_value}
use Rattle.operand.specs.declared.value.OperandValue.{OperandValue}

-- the same as the code answers it
abbrev pub fitted_of : Fitted → Option ℕ
fitted_of (fits n) = Some n
fitted_of no_fit = None

-- `write_operand` of a value under a type
unfoldable pub write_operand : ℕ → OperandValue → ℕ → Fitted
write_operand code v beside = encode_operand code (kind_of_value v) (bits_of_value v beside)
