-- Numbers as they are printed. Assumes nothing.
use Rattle.std.specs.Prelude.{ℕ, zero, suc, ◌+◌, ◌-◌, ◌/◌, ◌%◌, true, false, List, [], ◌∷◌, ◌++◌, ltb, ℤ, pos, negsuc, length, replicate}
use Rattle.lists.specs.Choice.{pick}

-- the digit of a number below 16: 0 to 9, then letters from `letter` on ('a' is 97, 'A' is 65)
unfoldable pub digit : ℕ → ℕ → ℕ
digit letter d = pick (ltb d 10) (48 + d) (letter + (d - 10))

-- the digits of n in a base, highest first, of which there are at most `fuel`
unfoldable pub digits : ℕ → ℕ → ℕ → ℕ → List ℕ
digits base letter zero n = []
digits base letter (suc fuel) n =
    elim (ltb n base) [ true ↦ digit letter n ∷ [] | false ↦ digits base letter fuel (n / base) ++ (digit letter (n % base) ∷ []) ]

-- a text with zeros in front, at least w characters
unfoldable pub padded : ℕ → List ℕ → List ℕ
padded w s = replicate (w - length s) 48 ++ s

-- decimal, of a number below 10 ^ 20, as every u64 is
unfoldable pub decimal : ℕ → List ℕ
decimal n = digits 10 97 20 n

-- signed decimal, as Rust prints an i32
unfoldable pub signed_decimal : ℤ → List ℕ
signed_decimal (pos n) = decimal n
signed_decimal (negsuc n) = 45 ∷ decimal (suc n)

-- hexadecimal of a number below 16 ^ 16, as every u64 is: `{:x}` and `{:X}`
unfoldable pub hex_lower : ℕ → List ℕ
hex_lower n = digits 16 97 16 n

unfoldable pub hex_upper : ℕ → List ℕ
hex_upper n = digits 16 65 16 n

-- `{:04x}`, the offset of a listed line
unfoldable pub hex_lower4 : ℕ → List ℕ
hex_lower4 n = padded 4 (hex_lower n)

-- "four upper-case hex digits" of an escape, and "16 upper-case hex digits" of a double
unfoldable pub hex_upper4 : ℕ → List ℕ
hex_upper4 n = padded 4 (hex_upper n)

unfoldable pub hex_upper16 : ℕ → List ℕ
hex_upper16 n = padded 16 (hex_upper n)
