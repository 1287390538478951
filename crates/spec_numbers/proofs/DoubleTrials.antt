-- Doubles printed and read, by computing. Assumes nothing.
use mathlib.Core.Path.{◌≡◌, refl}
use Prim.Native.Nat.{ℕ, ◌+◌, ◌-◌, ◌*◌, ◌^◌}
use lib.Count.{count_leading_zeros}
use Rattle.lists.specs.Scan.{same, opens}
use Rattle.lists.specs.Text.{text}
use Rattle.spec_numbers.specs.Print.{decimal, hex_upper16, hex_upper, padded, digits, digit}
use Rattle.spec_numbers.specs.Parse.{unsigned_value, digits_value, digit_value}
use Rattle.spec_numbers.specs.Parse.Parsed.{is, bad}
use Rattle.spec_numbers.specs.Double.{print_double, printed_as, whole_of, whole_at, scaled, sign_text, infinity_text, hex_mark, read_double, read_whole, read_hex16, whole_digits, with_sign, bits_of_whole}

-- what a trial computes through: `unfolding printing` opens all of these
unfoldable printing : ℕ
unfolding print_double printed_as whole_of whole_at scaled sign_text infinity_text hex_mark text decimal hex_upper16 hex_upper padded digits digit
printing = 0

unfoldable reading : ℕ
unfolding read_double read_whole read_hex16 whole_digits with_sign bits_of_whole count_leading_zeros infinity_text hex_mark text same opens unsigned_value digits_value digit_value
reading = 0

zero_prints : print_double 0 ≡ text "0"
unfolding printing
zero_prints = refl

minus_zero_prints : print_double (2 ^ 63) ≡ text "-0"
unfolding printing
minus_zero_prints = refl

one_prints : print_double (1023 * 2 ^ 52) ≡ text "1"
unfolding printing
one_prints = refl

minus_one_prints : print_double (2 ^ 63 + 1023 * 2 ^ 52) ≡ text "-1"
unfolding printing
minus_one_prints = refl

largest_odd_prints : print_double (1075 * 2 ^ 52 + (2 ^ 52 - 1)) ≡ text "9007199254740991"
unfolding printing
largest_odd_prints = refl

most_prints : print_double (1076 * 2 ^ 52) ≡ text "9007199254740992"
unfolding printing
most_prints = refl

past_most_prints : print_double (1076 * 2 ^ 52 + 1) ≡ text "0x4340000000000001"
unfolding printing
past_most_prints = refl

half_prints : print_double (1022 * 2 ^ 52) ≡ text "0x3FE0000000000000"
unfolding printing
half_prints = refl

one_and_a_half_prints : print_double (1023 * 2 ^ 52 + 2 ^ 51) ≡ text "0x3FF8000000000000"
unfolding printing
one_and_a_half_prints = refl

least_prints : print_double 1 ≡ text "0x0000000000000001"
unfolding printing
least_prints = refl

infinity_prints : print_double (2047 * 2 ^ 52) ≡ text "Infinity"
unfolding printing
infinity_prints = refl

minus_infinity_prints : print_double (2 ^ 63 + 2047 * 2 ^ 52) ≡ text "-Infinity"
unfolding printing
minus_infinity_prints = refl

nan_prints : print_double (2047 * 2 ^ 52 + 2 ^ 51 + 1) ≡ text "0x7FF8000000000001"
unfolding printing
nan_prints = refl

plus_five_reads : read_double (text "+5") ≡ is (1025 * 2 ^ 52 + 2 ^ 50)
unfolding reading
plus_five_reads = refl

minus_zero_reads : read_double (text "-0") ≡ is (2 ^ 63)
unfolding reading
minus_zero_reads = refl

sixteen_digits_read : read_double (text "0000000000000005") ≡ is (1025 * 2 ^ 52 + 2 ^ 50)
unfolding reading
sixteen_digits_read = refl

seventeen_digits_bad : read_double (text "00000000000000005") ≡ bad
unfolding reading
seventeen_digits_bad = refl

most_reads : read_double (text "9007199254740992") ≡ is (1076 * 2 ^ 52)
unfolding reading
most_reads = refl

past_most_bad : read_double (text "9007199254740993") ≡ bad
unfolding reading
past_most_bad = refl

infinity_reads : read_double (text "Infinity") ≡ is (2047 * 2 ^ 52)
unfolding reading
infinity_reads = refl

minus_infinity_reads : read_double (text "-Infinity") ≡ is (2 ^ 63 + 2047 * 2 ^ 52)
unfolding reading
minus_infinity_reads = refl

plus_infinity_bad : read_double (text "+Infinity") ≡ bad
unfolding reading
plus_infinity_bad = refl

lower_hex_reads : read_double (text "0x3ff0000000000000") ≡ is (1023 * 2 ^ 52)
unfolding reading
lower_hex_reads = refl

largest_hex_reads : read_double (text "0xffffFFFFffffFFFF") ≡ is (2 ^ 64 - 1)
unfolding reading
largest_hex_reads = refl

short_hex_bad : read_double (text "0x3FF") ≡ bad
unfolding reading
short_hex_bad = refl

upper_mark_bad : read_double (text "0X3FF0000000000000") ≡ bad
unfolding reading
upper_mark_bad = refl

empty_bad : read_double (text "") ≡ bad
unfolding reading
empty_bad = refl

sign_alone_bad : read_double (text "-") ≡ bad
unfolding reading
sign_alone_bad = refl

point_bad : read_double (text "1.5") ≡ bad
unfolding reading
point_bad = refl
