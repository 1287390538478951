-- One operand as it is listed: format_operand and format_operand_value of disasm.rs. Assumes nothing.
use Rattle.std.specs.Prelude.{Bool, List, [], ◌∷◌, ◌++◌, ℕ, eqb, ltb, length, get_or, drop}
use Rattle.lists.specs.Choice.{pick, both}
use Rattle.lists.specs.Text.{text}
use Rattle.spec_numbers.specs.TwosComplement.{signed, wrap_add, extend8}
use Rattle.spec_numbers.specs.Print.{decimal, signed_decimal}
use Rattle.spec_numbers.specs.Double.{print_double}
use Rattle.spec_sheet.specs.Types.{family_of, reg_family, uint_family, string_family, addr_family, imm32_family, addr8}
use Rattle.spec_strings.specs.Table.{text_of}
use Rattle.spec_strings.specs.Escape.{quoted}

-- the 32 bits of an Addr's distance: Addr8 (code 9) is a signed byte
unfoldable pub distance_of : ℕ → ℕ → ℕ
distance_of code bits = pick (eqb code addr8) (extend8 bits) bits

-- the 32 bits of an Addr's target: "The target sum wraps at 32 bits"
unfoldable pub target_of : ℕ → ℕ → ℕ → ℕ
target_of at code bits = wrap_add at (distance_of code bits)

-- a string id: its text, quoted, where texts are shown and it has one, else the number
unfoldable pub string_text : Bool → List ℕ → List ℕ → ℕ → List ℕ
string_text texts bytes ends id = pick (both texts (ltb id (length ends))) (quoted (text_of bytes ends id)) (decimal id)

-- an operand of the instruction at `at`, by its family: r and the number, the number, the text, L and the target, a signed
-- number, a double by its bits
unfoldable pub operand_text : Bool → List ℕ → List ℕ → ℕ → ℕ → ℕ → List ℕ
operand_text texts bytes ends at code bits =
    pick (eqb (family_of code) reg_family) (114 ∷ decimal bits)
    (pick (eqb (family_of code) uint_family) (decimal bits)
    (pick (eqb (family_of code) string_family) (string_text texts bytes ends bits)
    (pick (eqb (family_of code) addr_family) (76 ∷ signed_decimal (signed 32 (target_of at code bits)))
    (pick (eqb (family_of code) imm32_family) (signed_decimal (signed 32 bits)) (print_double bits)))))

-- the operands of a row of type codes with their pairs of kind and bits, each behind what separates it from what stands
-- before: a space, then comma and space; code 0 is no operand
unfoldable pub operand_texts : Bool → List ℕ → List ℕ → ℕ → List ℕ → List ℕ → List ℕ → List ℕ
operand_texts texts bytes ends at separator [] pairs = []
operand_texts texts bytes ends at separator (code ∷ codes) pairs =
    let rest = operand_texts texts bytes ends at (text ", ") codes (drop 2 pairs) in
    pick (eqb code 0) [] (separator ++ operand_text texts bytes ends at code (get_or pairs 1 0) ++ rest)
