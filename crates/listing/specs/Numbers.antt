-- Numbers as they are listed, by their family: what stands in front, and the number with its sign. Assumes nothing.
use Rattle.std.specs.Prelude.{List, [], ◌∷◌, ℕ, Bool, eqb, ltb}
use Rattle.lists.specs.Choice.{pick, either}
use Rattle.spec_numbers.specs.Print.{decimal, signed_decimal}
use Rattle.spec_numbers.specs.TwosComplement.{signed}
use Rattle.spec_sheet.specs.Types.{reg_family, string_family, addr_family, imm32_family}

-- r for a register, L for a target
unfoldable pub front_text : ℕ → List ℕ
front_text family = pick (eqb family reg_family) (114 ∷ []) (pick (eqb family addr_family) (76 ∷ []) [])

-- Addr and Imm32 are signed numbers of 32 bits
abbrev pub signed_family : ℕ → Bool
signed_family family = either (eqb family addr_family) (eqb family imm32_family)

-- those of the families behind the strings' have a sign; a Double's bits are not listed so
unfoldable pub value_text : ℕ → ℕ → List ℕ
value_text family n = pick (ltb string_family family) (signed_decimal (signed 32 n)) (decimal n)
