use Rattle.spec_body.specs.Encode.{encode_double}
use Rattle.operand.specs.Value.{kind_of_value, bits_of_value}
use Rattle.operand.proofs.WriteLaws.{no_double}
use Rattle.operand.proofs.write.encode_double.Goals as goal

pub returns-in-F64 : goal.returns-in-F64
unfolding encode_double kind_of_value bits_of_value
returns-in-F64 c = rw c.in-F64.is

pub returns-in_default : goal.returns-in_default
returns-in_default c = no_double c.args.v c.args.beside c.in_default.not-F64
