-- The number of each family of operand types. Assumes nothing.
use Rattle.std.specs.Prelude.{ℕ}
use Rattle.spec_sheet.specs.Types.{reg_family, uint_family, string_family, addr_family, imm32_family, double_family}
use Rattle.sheet.specs.declared.family.Family.{Family}
use Rattle.sheet.specs.declared.family.Family.TheVariants.{NoOperand, Reg, UInt, Str, Addr, Imm32, Double}

unfoldable pub family_number : Family → ℕ
family_number NoOperand = 0
family_number Reg = reg_family
family_number UInt = uint_family
family_number Str = string_family
family_number Addr = addr_family
family_number Imm32 = imm32_family
family_number Double = double_family
