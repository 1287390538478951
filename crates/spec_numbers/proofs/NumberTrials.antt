-- Trials of the definitions of numbers, by computing. Assumes nothing.
use mathlib.Core.Path.{◌≡◌, refl}
use mathlib.Core.List.{[], ◌∷◌}
use Prim.Native.Nat.{◌-◌}
use Rattle.lists.specs.Text.{text}
use Rattle.spec_numbers.specs.LittleEndian.{le, le_bytes}
use Rattle.spec_numbers.specs.TwosComplement.{signed, wrap_sub, wrap_add, extend8}
use Rattle.spec_numbers.specs.Print.{digit, digits, padded, decimal, signed_decimal, hex_lower, hex_upper, hex_lower4, hex_upper4, hex_upper16}
use Rattle.spec_numbers.specs.Parse.{digit_value, digits_value, unsigned_value, parse_u32_in, parse_u32, parse_hex, parse_i32, minus, negated}
use Rattle.spec_numbers.specs.Parse.Parsed.{is, bad}

-- u32: a `+` may stand in front and a `-` may not, and the largest is 2^32 - 1
pub u32_with_plus : parse_u32 (text "+1") ≡ is 1
unfolding text parse_u32_in unsigned_value digits_value digit_value
u32_with_plus = refl

pub u32_minus_zero : parse_u32 (text "-0") ≡ bad
unfolding text parse_u32_in unsigned_value digits_value digit_value
u32_minus_zero = refl

pub u32_largest : parse_u32 (text "4294967295") ≡ is 4294967295
unfolding text parse_u32_in unsigned_value digits_value digit_value
u32_largest = refl

pub u32_too_large : parse_u32 (text "4294967296") ≡ bad
unfolding text parse_u32_in unsigned_value digits_value digit_value
u32_too_large = refl

pub u32_zeros : parse_u32 (text "0000000000007") ≡ is 7
unfolding text parse_u32_in unsigned_value digits_value digit_value
u32_zeros = refl

pub u32_empty : parse_u32 (text "") ≡ bad
unfolding text parse_u32_in
u32_empty = refl

pub u32_plus_alone : parse_u32 (text "+") ≡ bad
unfolding text parse_u32_in unsigned_value
u32_plus_alone = refl

pub u32_two_plus : parse_u32 (text "++1") ≡ bad
unfolding text parse_u32_in unsigned_value digits_value digit_value
u32_two_plus = refl

pub u32_letter : parse_u32 (text "1a") ≡ bad
unfolding text parse_u32_in unsigned_value digits_value digit_value
u32_letter = refl

-- i32: both signs, from -2^31 to 2^31 - 1, by the bits
pub i32_minus_zero : parse_i32 (text "-0") ≡ is 0
unfolding text parse_i32 unsigned_value digits_value digit_value negated minus
i32_minus_zero = refl

pub i32_minus_one : parse_i32 (text "-1") ≡ is 4294967295
unfolding text parse_i32 unsigned_value digits_value digit_value negated minus
i32_minus_one = refl

pub i32_least : parse_i32 (text "-2147483648") ≡ is 2147483648
unfolding text parse_i32 unsigned_value digits_value digit_value negated minus
i32_least = refl

pub i32_below : parse_i32 (text "-2147483649") ≡ bad
unfolding text parse_i32 unsigned_value digits_value digit_value negated minus
i32_below = refl

pub i32_largest : parse_i32 (text "+2147483647") ≡ is 2147483647
unfolding text parse_i32 unsigned_value digits_value digit_value
i32_largest = refl

pub i32_above : parse_i32 (text "2147483648") ≡ bad
unfolding text parse_i32 unsigned_value digits_value digit_value
i32_above = refl

pub i32_minus_alone : parse_i32 (text "-") ≡ bad
unfolding text parse_i32 unsigned_value negated
i32_minus_alone = refl

-- hexadecimal: digits of either case, also with a `+`
pub hex_both_cases : parse_hex (text "fF") ≡ is 255
unfolding text parse_u32_in unsigned_value digits_value digit_value
hex_both_cases = refl

pub hex_with_plus : parse_hex (text "+1") ≡ is 1
unfolding text parse_u32_in unsigned_value digits_value digit_value
hex_with_plus = refl

pub hex_too_large : parse_hex (text "100000000") ≡ bad
unfolding text parse_u32_in unsigned_value digits_value digit_value
hex_too_large = refl

pub hex_no_digit : parse_hex (text "g") ≡ bad
unfolding text parse_u32_in unsigned_value digits_value digit_value
hex_no_digit = refl

-- printing
pub prints_decimal : decimal 18446744073709551615 ≡ text "18446744073709551615"
unfolding text decimal digits digit
prints_decimal = refl

pub prints_zero : decimal 0 ≡ text "0"
unfolding text decimal digits digit
prints_zero = refl

pub prints_least : signed_decimal (signed 32 2147483648) ≡ text "-2147483648"
unfolding text signed_decimal decimal digits digit
prints_least = refl

pub prints_lower4 : hex_lower4 171 ≡ text "00ab"
unfolding text hex_lower4 hex_lower padded digits digit
prints_lower4 = refl

pub prints_lower4_long : hex_lower4 70000 ≡ text "11170"
unfolding text hex_lower4 hex_lower padded digits digit
prints_lower4_long = refl

pub prints_upper4 : hex_upper4 10 ≡ text "000A"
unfolding text hex_upper4 hex_upper padded digits digit
prints_upper4 = refl

pub prints_upper16 : hex_upper16 9221120237041090560 ≡ text "7FF8000000000000"
unfolding text hex_upper16 hex_upper padded digits digit
prints_upper16 = refl

-- bits and bytes
pub wraps_below : wrap_sub 0 1 ≡ 4294967295
wraps_below = refl

pub wraps_above : wrap_add 4294967295 2 ≡ 1
wraps_above = refl

pub extends_minus_one : extend8 255 ≡ 4294967295
unfolding extend8
extends_minus_one = refl

pub reads_little : le (0x78 ∷ 0x56 ∷ 0x34 ∷ 0x12 ∷ []) ≡ 0x12345678
unfolding le
reads_little = refl

pub writes_little : le_bytes 4 0x12345678 ≡ 0x78 ∷ 0x56 ∷ 0x34 ∷ 0x12 ∷ []
unfolding le_bytes
writes_little = refl
