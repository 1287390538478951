-- Numbers as they are read: Rust's `str::parse` of u32 and i32, and `u32::from_str_radix(_, 16)`. Assumes nothing.
use Rattle.std.specs.Prelude.{ℕ, zero, suc, ◌+◌, ◌-◌, ◌*◌, ◌^◌, true, false, List, [], ◌∷◌, ltb, leb, eqb, ℤ, pos, negsuc}
use Rattle.lists.specs.Choice.{pick, both, within}
use Rattle.spec_numbers.specs.TwosComplement.{unsigned}

-- a number that was read, or that the text is none
pub data Parsed : Type 0 where
  is : ℕ → Parsed
  bad : Parsed

-- what a byte is worth as a digit, of either case; 16 for a byte that is no digit
unfoldable pub digit_value : ℕ → ℕ
digit_value b =
    pick (within 48 57 b) (b - 48)
    (pick (within 97 102 b) (b - 87)
    (pick (within 65 70 b) (b - 55) 16))

-- digits behind a number n that was read already: no byte but a digit of the base, and nothing past `most`
unfoldable pub digits_value : ℕ → ℕ → ℕ → List ℕ → Parsed
digits_value base most n [] = is n
digits_value base most n (b ∷ s) =
    elim (both (ltb (digit_value b) base) (leb (n * base + digit_value b) most)) [ true ↦ digits_value base most (n * base + digit_value b) s | false ↦ bad ]

-- one digit or more
unfoldable pub unsigned_value : ℕ → ℕ → List ℕ → Parsed
unsigned_value base most [] = bad
unsigned_value base most (b ∷ s) = digits_value base most 0 (b ∷ s)

-- the same with a `+` that may stand in front: u32's parse in base 10, `from_str_radix` in base 16
unfoldable pub parse_u32_in : ℕ → List ℕ → Parsed
parse_u32_in base [] = bad
parse_u32_in base (b ∷ s) = elim (eqb b 43) [ true ↦ unsigned_value base (2 ^ 32 - 1) s | false ↦ unsigned_value base (2 ^ 32 - 1) (b ∷ s) ]

abbrev pub parse_u32 : List ℕ → Parsed
parse_u32 s = parse_u32_in 10 s

abbrev pub parse_hex : List ℕ → Parsed
parse_hex s = parse_u32_in 16 s

-- minus n
unfoldable pub minus : ℕ → ℤ
minus zero = pos zero
minus (suc n) = negsuc n

-- the 32 bits of minus a number
unfoldable pub negated : Parsed → Parsed
negated (is n) = is (unsigned 32 (minus n))
negated bad = bad

-- i32's parse, by the 32 bits of the number: a `+` or `-` may stand in front, and -2^31 is the least
unfoldable pub parse_i32 : List ℕ → Parsed
parse_i32 [] = bad
parse_i32 (b ∷ s) =
    elim (eqb b 45) [
      | true ↦ negated (unsigned_value 10 (2 ^ 31) s)
      | false ↦ elim (eqb b 43) [ true ↦ unsigned_value 10 (2 ^ 31 - 1) s | false ↦ unsigned_value 10 (2 ^ 31 - 1) (b ∷ s) ]
    ]
