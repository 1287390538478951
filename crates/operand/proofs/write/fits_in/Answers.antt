use Rattle.std.proofs.Common.{arith, ◌∙◌, le-leb}
use Rattle.operand.proofs.WriteLaws.{shifted_out, wide_enough}
use Rattle.operand.proofs.write.fits_in.Goals as goal

pub returns-then-w-ge8 : goal.returns-then-w-ge8
returns-then-w-ge8 c = let a = c.args in le-leb 8 a.w c.if-w-ge8.true ∙ wide_enough a.w a.bits c.if-w-ge8.true (omega arith)

pub returns-else-w-ge8 : goal.returns-else-w-ge8
returns-else-w-ge8 c = let a = c.args in shifted_out a.w a.bits
