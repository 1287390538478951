use Rattle.sheet.specs.Families.{family_number}
use Rattle.listing.proofs.OperandLaws.{unsigned_other}
use mathlib.Core.Path.{refl, sym}
use Rattle.listing.proofs.operand_text.is_signed.Goals as goal

pub returns-in-Addr : goal.returns-in-Addr
unfolding family_number
returns-in-Addr c = rw c.in-Addr.is refl

pub returns-in-Imm32 : goal.returns-in-Imm32
unfolding family_number
returns-in-Imm32 c = rw c.in-Imm32.is refl

pub returns-in_default : goal.returns-in_default
returns-in_default c = sym (unsigned_other c.args.family c.in_default.not-Addr c.in_default.not-Imm32)
