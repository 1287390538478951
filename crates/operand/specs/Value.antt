-- An operand's value as the enum OperandValue. Assumes nothing.
use Rattle.std.specs.Prelude.{ℕ, ◌+◌, ◌%◌, List, eqb}
use Rattle.std.specs.Float.Ieee.{of_bits}
use Rattle.std.specs.Float.{binary64}
use Rattle.lists.specs.Choice.{pick}
use Rattle.lists.specs.Scan.{part}
use Rattle.spec_numbers.specs.LittleEndian.{le}
use Rattle.spec_numbers.specs.TwosComplement.{signed, unsigned}
use Rattle.spec_sheet.specs.Types.{width_of, kind_of}
use Rattle.operand.specs.declared.value.OperandValue.{OperandValue}
use Rattle.operand.specs.declared.value.OperandValue.TheVariants.{U8, U16, U32, I8, I32, F64}
use Rattle.operand.specs.declared.value.Operand.{Operand}

-- the value of a kind whose bits are n: "Kinds: 0 U8, 1 U16, 2 U32, 3 I8, 4 I32, 5 F64"
abbrev pub value_of : ℕ → ℕ → OperandValue
value_of kind n =
    pick (eqb kind 0) (U8 (n % 256))
    (pick (eqb kind 1) (U16 (n % 65536))
    (pick (eqb kind 2) (U32 (n % 4294967296))
    (pick (eqb kind 3) (I8 (signed 8 (n % 256)))
    (pick (eqb kind 4) (I32 (signed 32 (n % 4294967296))) (F64 (of_bits binary64 n))))))

-- the kind of a value
unfoldable pub kind_of_value : OperandValue → ℕ
kind_of_value (U8 x) = 0
kind_of_value (U16 x) = 1
kind_of_value (U32 x) = 2
kind_of_value (I8 x) = 3
kind_of_value (I32 x) = 4
kind_of_value (F64 x) = 5

-- and its bits: a number's are its own, a double's stand beside it
unfoldable pub bits_of_value : OperandValue → ℕ → ℕ
bits_of_value (U8 x) beside = x
bits_of_value (U16 x) beside = x
bits_of_value (U32 x) beside = x
bits_of_value (I8 x) beside = unsigned 8 x
bits_of_value (I32 x) beside = unsigned 32 x
bits_of_value (F64 x) beside = beside

-- the operand of a type at a place: its value, a double's bits beside it, and the place behind its bytes
unfoldable pub operand_at : ℕ → List ℕ → ℕ → Operand
operand_at code s at =
    let n = le (part s at (width_of code)) in
    record { value = value_of (kind_of code) n; bits = pick (eqb (kind_of code) 5) n 0; next = at + width_of code }

-- what a record holds of an operand: the kind and the bits of its value
abbrev pub kind_in : Operand → ℕ
kind_in o = kind_of_value o.value

abbrev pub bits_in : Operand → ℕ
bits_in o = bits_of_value o.value o.bits
