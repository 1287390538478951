-- What the reads of ByteReader answer: "`ByteReader` lends the body and its position to each read". Assumes nothing.
use Rattle.std.specs.Prelude.{List, ℕ, ℤ, Option, Some, None, ◌+◌, leb, length, option_map}
use Rattle.std.specs.Float.Ieee.{Float, of_bits}
use Rattle.std.specs.Float.{binary64}
use Rattle.lists.specs.Choice.{pick}
use Rattle.lists.specs.Scan.{part}
use Rattle.spec_numbers.specs.LittleEndian.{le}
use Rattle.spec_numbers.specs.TwosComplement.{signed}
use Rattle.operand.specs.declared.reader.Read.{Read}

-- n bytes at a position as their little-endian number, or that the bytes end
abbrev pub number_at : List ℕ → ℕ → ℕ → Option ℕ
number_at s at n = pick (leb (at + n) (length s)) (Some (le (part s at n))) None

-- a number of that many bytes, the bits that it is made of, and the position behind them
abbrev pub read_at : {A : Type 0} → ℕ → (ℕ → A) → List ℕ → ℕ → Option (Read A)
read_at width number s at = option_map (λ bits. record { value = number bits; bits = bits; next = at + width }) (number_at s at width)

-- the reads
abbrev pub u8_at : List ℕ → ℕ → Option (Read ℕ)
u8_at = read_at 1 (λ n. n)

abbrev pub u16_at : List ℕ → ℕ → Option (Read ℕ)
u16_at = read_at 2 (λ n. n)

abbrev pub u32_at : List ℕ → ℕ → Option (Read ℕ)
u32_at = read_at 4 (λ n. n)

abbrev pub i8_at : List ℕ → ℕ → Option (Read ℤ)
i8_at = read_at 1 (signed 8)

abbrev pub i32_at : List ℕ → ℕ → Option (Read ℤ)
i32_at = read_at 4 (signed 32)

abbrev pub f64_at : List ℕ → ℕ → Option (Read Float)
f64_at = read_at 8 (of_bits binary64)
