-- Families by their numbers. Assumes nothing.
use mathlib.Core.Path.{◌≡◌, refl, ap, sym, ◌∙◌}
use Prim.Native.Nat.{ℕ}
use lib.Dec.{eqb}
use Rattle.lists.specs.Choice.{pick}
use Rattle.sheet.specs.declared.family.Family.{Family}
use Rattle.sheet.specs.declared.family.Family.TheVariants.{NoOperand, Reg, UInt, Str, Addr, Imm32, Double}
use Rattle.sheet.specs.Families.{family_number}

-- the family that has a number
family_at : ℕ → Family
family_at n = pick (eqb n 1) Reg (pick (eqb n 2) UInt (pick (eqb n 3) Str (pick (eqb n 4) Addr (pick (eqb n 5) Imm32 (pick (eqb n 6) Double NoOperand)))))

own_number : (f : Family) → family_at (family_number f) ≡ f
unfolding family_at family_number
own_number NoOperand = refl
own_number Reg = refl
own_number UInt = refl
own_number Str = refl
own_number Addr = refl
own_number Imm32 = refl
own_number Double = refl

-- so two families with one number are one
pub same_family : (f g : Family) → family_number f ≡ family_number g → f ≡ g
same_family f g e = sym (own_number f) ∙ (ap family_at e ∙ own_number g)
