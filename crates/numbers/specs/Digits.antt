-- Two, four and eight digits, with zeros in front. Assumes nothing.
use Rattle.std.specs.Prelude.{ℕ, ◌+◌, ◌*◌, ◌/◌, ◌%◌, List, [], ◌∷◌, ◌++◌}
use Rattle.spec_numbers.specs.Print.{digit}

abbrev pub square : ℕ → ℕ
square n = n * n

-- in a base, letters from `letter` on: of a number below base ^ 2, of one below base ^ 4, and of one below base ^ 8
abbrev pub two_of : ℕ → ℕ → ℕ → List ℕ
two_of base letter n = digit letter (n / base) ∷ digit letter (n % base) ∷ []

abbrev pub four_of : ℕ → ℕ → ℕ → List ℕ
four_of base letter n = two_of base letter (n / square base) ++ two_of base letter (n % square base)

abbrev pub eight_of : ℕ → ℕ → ℕ → List ℕ
eight_of base letter n = four_of base letter (n / square (square base)) ++ four_of base letter (n % square (square base))

-- in decimal
abbrev pub two_digits : ℕ → List ℕ
two_digits n = (48 + n / 10) ∷ (48 + n % 10) ∷ []

abbrev pub four_digits : ℕ → List ℕ
four_digits n = two_digits (n / 100) ++ two_digits (n % 100)

abbrev pub eight_digits : ℕ → List ℕ
eight_digits n = four_digits (n / 10000) ++ four_digits (n % 10000)

-- in hexadecimal
abbrev pub two_hex_digits : ℕ → ℕ → List ℕ
two_hex_digits letter n = two_of 16 letter n

abbrev pub four_hex_digits : ℕ → ℕ → List ℕ
four_hex_digits letter n = four_of 16 letter n

abbrev pub eight_hex_digits : ℕ → ℕ → List ℕ
eight_hex_digits letter n = eight_of 16 letter n
