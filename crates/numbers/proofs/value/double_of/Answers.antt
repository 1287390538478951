use Rattle.std.proofs.Common.{sym, ◌∙◌}
use Rattle.numbers.proofs.NanLaws.{no_nan, a_nan, zero_by_zero}
use Rattle.numbers.proofs.value.double_of.Goals as goal

pub float_from_bits-result : goal.float_from_bits-result
float_from_bits-result c = no_nan c.args.bits c.if-size-gt9218868437227405312.false

pub returns-then-size-gt9218868437227405312 : goal.returns-then-size-gt9218868437227405312
returns-then-size-gt9218868437227405312 c = zero_by_zero ∙ sym (a_nan c.args.bits c.if-size-gt9218868437227405312.true)
