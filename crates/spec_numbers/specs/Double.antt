-- Doubles by their 64 bits, printed and read (document 01, 'Listing', the paragraph on Double). Assumes nothing.
use Rattle.std.specs.Prelude.{ℕ, ◌+◌, ◌-◌, ◌*◌, ◌/◌, ◌%◌, ◌^◌, List, [], ◌∷◌, ◌++◌, eqb, ltb, leb, length, drop, get_or}
use Rattle.std.specs.Int.Count.{count_leading_zeros}
use Rattle.lists.specs.Choice.{pick}
use Rattle.lists.specs.Scan.{same, opens}
use Rattle.lists.specs.Text.{text}
use Rattle.spec_numbers.specs.Print.{decimal, hex_upper16}
use Rattle.spec_numbers.specs.Parse.{Parsed, unsigned_value}
use Rattle.spec_numbers.specs.Parse.Parsed.{is, bad}

-- sign, exponent and fraction of a double
abbrev pub sign_of : ℕ → ℕ
sign_of bits = bits / 2 ^ 63

abbrev pub exp_of : ℕ → ℕ
exp_of bits = bits / 2 ^ 52 % 2 ^ 11

abbrev pub frac_of : ℕ → ℕ
frac_of bits = bits % 2 ^ 52

-- a significand times 2^-k, where "enough low bits of the significand are zero"
unfoldable pub scaled : ℕ → ℕ → Parsed
scaled significand k = pick (eqb (significand % 2 ^ k) 0) (is (significand / 2 ^ k)) bad

-- the size of a double with this exponent and fraction, where it is "whole up to 2^53 in size"
unfoldable pub whole_at : ℕ → ℕ → Parsed
whole_at e m =
    pick (eqb e 0) (pick (eqb m 0) (is 0) bad)
    (pick (eqb e 1076) (pick (eqb m 0) (is (2 ^ 53)) bad)
    (pick (ltb e 1023) bad
    (pick (ltb 1075 e) bad (scaled (2 ^ 52 + m) (1075 - e)))))

unfoldable pub whole_of : ℕ → Parsed
whole_of bits = whole_at (exp_of bits) (frac_of bits)

-- the bits of infinity, and of the sign
abbrev pub infinite : ℕ
infinite = 2047 * 2 ^ 52

abbrev pub negative : ℕ
negative = 2 ^ 63

-- `-` for a set sign bit
unfoldable pub sign_text : ℕ → List ℕ
sign_text sign = pick (eqb sign 0) [] (45 ∷ [])

-- the word for an infinity without its sign, and the prefix of the hex form
unfoldable pub infinity_text : List ℕ
infinity_text = text "Infinity"

unfoldable pub hex_mark : List ℕ
hex_mark = text "0x"

-- "whole up to 2^53 in size prints as decimal (`-0` too), infinities as `Infinity`, `-Infinity`; all else as 0x and 16 upper-case hex digits"
unfoldable pub printed_as : Parsed → ℕ → List ℕ
printed_as (is n) bits = sign_text (sign_of bits) ++ decimal n
printed_as bad bits = pick (eqb (bits % 2 ^ 63) infinite) (sign_text (sign_of bits) ++ infinity_text) (hex_mark ++ hex_upper16 bits)

unfoldable pub print_double : ℕ → List ℕ
print_double bits = printed_as (whole_of bits) bits

-- the place of the highest set bit of a number below 2^64 that is not 0
abbrev pub top_bit : ℕ → ℕ
top_bit n = 63 - count_leading_zeros 64 n

-- the bits of the double n, for n up to 2^53
unfoldable pub bits_of_whole : ℕ → ℕ
bits_of_whole n =
    pick (eqb n 0) 0 (pick (eqb n (2 ^ 53)) (1076 * 2 ^ 52) ((top_bit n + 1023) * 2 ^ 52 + (n * 2 ^ (52 - top_bit n) - 2 ^ 52)))

-- the bits of a whole number that was read, with the bits of its sign
unfoldable pub with_sign : ℕ → Parsed → Parsed
with_sign sign (is n) = is (sign + bits_of_whole n)
with_sign sign bad = bad

-- "1 to 16 digits up to 2^53"
unfoldable pub whole_digits : List ℕ → Parsed
whole_digits s = pick (leb (length s) 16) (unsigned_value 10 (2 ^ 53) s) bad

-- "optional sign" and digits
unfoldable pub read_whole : List ℕ → Parsed
read_whole s =
    pick (eqb (get_or s 0 0) 45) (with_sign negative (whole_digits (drop 1 s)))
    (pick (eqb (get_or s 0 0) 43) (with_sign 0 (whole_digits (drop 1 s))) (with_sign 0 (whole_digits s)))

-- "16 hex digits of either case"
unfoldable pub read_hex16 : List ℕ → Parsed
read_hex16 s = pick (eqb (length s) 16) (unsigned_value 16 (2 ^ 64 - 1) s) bad

-- the bits of a Double token: a sign and digits, "those two words, or 0x and 16 hex digits"
unfoldable pub read_double : List ℕ → Parsed
read_double s =
    pick (same s infinity_text) (is infinite)
    (pick (same s (45 ∷ infinity_text)) (is (negative + infinite))
    (pick (opens hex_mark s) (read_hex16 (drop 2 s)) (read_whole s)))
