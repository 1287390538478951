use Rattle.listing.specs.Numbers.{front_text}
use Rattle.sheet.specs.Families.{family_number}
use Rattle.spec_numbers.specs.LittleEndian.{le_bytes}
use Rattle.listing.proofs.OperandLaws.{front_no_r}
use mathlib.Core.Path.{refl}
use Rattle.listing.proofs.operand_text.front_byte.Goals as goal

pub returns-in-Reg : goal.returns-in-Reg
unfolding front_text family_number le_bytes
returns-in-Reg c = rw c.in-Reg.is refl

pub returns-in_default : goal.returns-in_default
returns-in_default c = front_no_r c.args.family c.in_default.not-Reg
