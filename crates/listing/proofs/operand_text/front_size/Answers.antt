use Rattle.listing.specs.Numbers.{front_text}
use Rattle.sheet.specs.Families.{family_number}
use Rattle.listing.proofs.OperandLaws.{front_other}
use lib.ListN.{length}
use native.Mathlib.Omega.{arith}
use mathlib.Core.Path.{refl}
use Rattle.listing.proofs.operand_text.front_size.Goals as goal

pub returns-in-Reg : goal.returns-in-Reg
unfolding front_text family_number
returns-in-Reg c = (rw c.in-Reg.is refl, omega arith)

pub returns-in-Addr : goal.returns-in-Addr
unfolding front_text family_number
returns-in-Addr c = (rw c.in-Addr.is refl, omega arith)

pub returns-in_default : goal.returns-in_default
returns-in_default c = (rw (front_other c.args.family c.in_default.not-Reg c.in_default.not-Addr) refl, omega arith)
