-- Names of operand types as numbers. Assumes nothing.
use Rattle.std.specs.Prelude.{◌≡◌, true, ℕ, eqb, Option, Some, None}
use Rattle.lists.specs.Choice.{pick}
use Rattle.lists.specs.Scan.{all}
use Rattle.spec_numbers.specs.LittleEndian.{le_bytes}
use Rattle.spec_sheet.specs.Types.{type_code}
use Rattle.spec_sheet.specs.Scan.{is_name_byte}

-- the n bytes of w are the name of the type with this code
abbrev pub Names : ℕ → ℕ → ℕ → Type 0
Names n w code = (type_code (le_bytes n w) ≡ code) × (all is_name_byte (le_bytes n w) ≡ true)

-- a code, of which 0 is none
unfoldable pub code_in : ℕ → Option ℕ
code_in code = pick (eqb code 0) None (Some code)
