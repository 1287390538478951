-- Digits as the bytes of a word. Assumes nothing.
use Rattle.std.proofs.Common.{◌≡◌, ℕ, zero, suc, ◌+◌, ◌-◌, ◌*◌, ◌/◌, ◌%◌, ◌^◌, ◌<◌, ◌≤◌, Bool, true, false, ltb, List, [], ◌∷◌, ◌++◌, length, sym, refl, ap, ◌∙◌, arith, le-ltb, lt-ltb}
use lib.Bits.{bit_and, and_block, and_high}
use Rattle.std.specs.Int.{from_bool}
use Rattle.lists.specs.Choice.{pick, both}
use Rattle.lists.specs.Scan.{Bytes}
use Rattle.lists.proofs.Tests.{by_leb}
use Rattle.spec_numbers.specs.LittleEndian.{le, le_bytes}
use Rattle.spec_numbers.specs.Print.{digit, decimal, signed_decimal, hex_lower, hex_lower4}
use Rattle.spec_numbers.specs.TwosComplement.{signed}
use Rattle.spec_numbers.proofs.ByteLaws.{le_bytes_le}
use Rattle.numbers.specs.Digits.{two_digits, four_digits, four_hex_digits}
use Rattle.numbers.proofs.ByteSums.{le_append, le_shift, bytes_bits}
use Rattle.numbers.proofs.DecimalTurns.{decimal_one, decimal_two, decimal_three, decimal_four}
use Rattle.numbers.proofs.HexTurns.{hex_four}

-- 1 for a test that holds
pub bool_pick : (b : Bool) → from_bool b ≡ pick b 1 0
bool_pick true = refl
bool_pick false = refl

-- bytes that are given one by one
abbrev EachByte : List ℕ → Type 0
EachByte [] = 0 ≤ 0
EachByte (b ∷ s) = (b < 256) × EachByte s

bytes_each : (s : List ℕ) → EachByte s → Bytes s
bytes_each [] h zero = omega arith
bytes_each [] h (suc i) = omega arith
bytes_each (b ∷ s) (h, t) zero = h
bytes_each (b ∷ s) (h, t) (suc i) = bytes_each s t i

-- four digits by the pairs of the hundreds and of what is left
module _ (n : ℕ) where
  two_pairs : le (two_digits (n / 100)) + le (two_digits (n % 100)) * 65536 ≡ le (four_digits n)
  unfolding le
  two_pairs = omega arith

  pub four_of_pairs : (h x y : ℕ) → h ≡ n / 100 → x ≡ le (two_digits h) → y ≡ le (two_digits (n - h * 100)) → x + y * 65536 ≡ le (four_digits n)
  four_of_pairs h x y e a b =
      let f : n - h * 100 ≡ n % 100 = omega arith in
      rw (a, b, f, e) two_pairs

-- what is left of some bytes when those in front are shifted out
left_bytes : (a b : List ℕ) → Bytes a → Bytes b → le_bytes (length b) (le (a ++ b) / 256 ^ length a) ≡ b
left_bytes a b g h = ap (le_bytes (length b)) (le_shift a b g) ∙ le_bytes_le b h

-- how many digits a number below 10000 has, and what is left of four when the zeros in front are shifted out
pub record Small (n : ℕ) : Type 0 where
  pub count : length (decimal n) ≡ 1 + pick (ltb 9 n) 1 0 + pick (ltb 99 n) 1 0 + pick (ltb 999 n) 1 0
  pub few : length (decimal n) ≤ 4
  pub shifted : le_bytes (length (decimal n)) (le (four_digits n) / 2 ^ (32 - 8 * length (decimal n))) ≡ decimal n

module _ (n : ℕ) (h : n < 10000) where
  -- the front of the four digits, and the number's own
  small_of : (a b : List ℕ) → four_digits n ≡ a ++ b → decimal n ≡ b → Bytes a → Bytes b → length a + length b ≡ 4
      → length b ≡ 1 + pick (ltb 9 n) 1 0 + pick (ltb 99 n) 1 0 + pick (ltb 999 n) 1 0 → Small n
  small_of a b f d s t l k =
      let e : 32 - 8 * length b ≡ 8 * length a = omega (arith, l) in
      let z : le_bytes (length b) (le (four_digits n) / 2 ^ (32 - 8 * length b)) ≡ b = rw (f, e, sym (bytes_bits (length a))) (left_bytes a b s t) in
      record { count = ap length d ∙ k; few = omega (arith, ap length d, l); shifted = rw d z }

  abbrev first : ℕ
  first = 48 + n / 100 / 10

  abbrev second : ℕ
  second = 48 + n / 100 % 10

  abbrev third : ℕ
  third = 48 + n % 100 / 10

  abbrev last : ℕ
  last = 48 + n % 100 % 10

  four_bytes : Bytes (four_digits n)
  four_bytes = bytes_each (four_digits n) (omega arith, (omega arith, (omega arith, (omega arith, omega arith))))

  pub four_digits_lem : le_bytes 4 (le (four_digits n)) ≡ four_digits n
  four_digits_lem = le_bytes_le (four_digits n) four_bytes

  one : n < 10 → Small n
  one g =
      let e : n % 100 % 10 ≡ n = omega arith in
      small_of (first ∷ second ∷ third ∷ []) ((48 + n) ∷ []) (rw e) (decimal_one n g)
      (bytes_each (first ∷ second ∷ third ∷ []) (omega arith, (omega arith, (omega arith, omega arith))))
      (bytes_each ((48 + n) ∷ []) (omega arith, omega arith))
      refl
      (rw (le-ltb 9 n (omega arith), le-ltb 99 n (omega arith), le-ltb 999 n (omega arith)) refl)

  two : 10 ≤ n → n < 100 → Small n
  two f g =
      let d : n % 100 / 10 ≡ n / 10 = omega arith in
      let e : n % 100 % 10 ≡ n % 10 = omega arith in
      small_of (first ∷ second ∷ []) ((48 + n / 10) ∷ (48 + n % 10) ∷ []) (rw (d, e)) (decimal_two n f g)
      (bytes_each (first ∷ second ∷ []) (omega arith, (omega arith, omega arith)))
      (bytes_each ((48 + n / 10) ∷ (48 + n % 10) ∷ []) (omega arith, (omega arith, omega arith)))
      refl
      (rw (lt-ltb 9 n (omega arith), le-ltb 99 n (omega arith), le-ltb 999 n (omega arith)) refl)

  three : 100 ≤ n → n < 1000 → Small n
  three f g =
      let d : n / 100 % 10 ≡ n / 100 = omega arith in
      small_of (first ∷ []) ((48 + n / 100) ∷ third ∷ last ∷ []) (rw d) (decimal_three n f g)
      (bytes_each (first ∷ []) (omega arith, omega arith))
      (bytes_each ((48 + n / 100) ∷ third ∷ last ∷ []) (omega arith, (omega arith, (omega arith, omega arith))))
      refl
      (rw (lt-ltb 9 n (omega arith), lt-ltb 99 n (omega arith), le-ltb 999 n (omega arith)) refl)

  four : 1000 ≤ n → Small n
  four g =
      small_of [] (four_digits n) refl (decimal_four n g h) (bytes_each [] (omega arith)) four_bytes refl
      (rw (lt-ltb 9 n (omega arith), lt-ltb 99 n (omega arith), lt-ltb 999 n (omega arith)) refl)

  pub small_decimal : Small n
  small_decimal =
      by_leb n 9 (λ a. one (omega arith))
      (λ a. by_leb n 99 (λ b. two (omega arith) (omega arith)) (λ b. by_leb n 999 (λ d. three (omega arith) (omega arith)) (λ d. four (omega arith))))

-- four digits and four more
pub eight_digits : (m n : ℕ) → m < 10000 → n < 10000 → le_bytes 8 (le (four_digits m) + le (four_digits n) * 4294967296) ≡ four_digits m ++ four_digits n
eight_digits m n g h =
    let e : le (four_digits m) + le (four_digits n) * 4294967296 ≡ le (four_digits m ++ four_digits n) = omega (arith, le_append (four_digits m) (four_digits n)) in
    rw e
    (le_bytes_le (four_digits m ++ four_digits n)
    (bytes_each (four_digits m ++ four_digits n) (omega arith, (omega arith, (omega arith, (omega arith, (omega arith, (omega arith, (omega arith, (omega arith, omega arith))))))))))

-- a number with its sign is the sign and the digits
pub signed_text : (b : Bool) (n : ℕ) → n < 4294967296
    → le_bytes (pick (both b (ltb 2147483647 n)) 1 0) 45 ++ decimal (pick (both b (ltb 2147483647 n)) (4294967296 - n) n) ≡ pick b (signed_decimal (signed 32 n)) (decimal n)
unfolding le_bytes signed_decimal
signed_text false n h = refl
signed_text true n h =
    by_leb n 2147483647 (λ l. rw (le-ltb 2147483647 n l, lt-ltb n 2147483648 (omega arith)) refl)
    (λ l. let e : suc (4294967296 - suc n) ≡ 4294967296 - n = omega arith in rw (lt-ltb 2147483647 n l, le-ltb n 2147483648 (omega arith), e) refl)

-- a digit as a sum, by whether it is a letter
digit_sum : (d : ℕ) → d < 16 → digit 97 d ≡ 48 + d + (d + 6) / 16 * 39
unfolding digit
digit_sum d h = by_leb 10 d (λ g. rw (le-ltb d 10 g) (omega arith)) (λ g. rw (lt-ltb d 10 g) (omega arith))

digit_byte : (d : ℕ) → d < 16 → digit 97 d < 256
digit_byte d h = omega (arith, digit_sum d h)

-- from 10 on, the sum with 6 has one bit more
letter_bit : (d : ℕ) → d < 16 → bit_and (d + 6) 16 ≡ (d + 6) / 16 * 16
letter_bit d h = omega (arith, and_high (d + 6) 1 4)

-- four digits as bytes of a word, the first the lowest
abbrev pub values_of : ℕ → ℕ → ℕ → ℕ → ℕ
values_of a b c d = a + b * 256 + c * 65536 + d * 16777216

module _ (a b c d : ℕ) (h : a < 16) (i : b < 16) (j : c < 16) (k : d < 16) where
  -- which of them are letters, all at once
  letter_bits : bit_and (values_of a b c d + 0x06060606) 0x10101010 / 16 ≡ values_of ((a + 6) / 16) ((b + 6) / 16) ((c + 6) / 16) ((d + 6) / 16)
  letter_bits =
      let e : values_of a b c d + 0x06060606 ≡ (((d + 6) * 256 + (c + 6)) * 256 + (b + 6)) * 256 + (a + 6) = omega arith in
      let f = and_block 8 (((d + 6) * 256 + (c + 6)) * 256 + (b + 6)) 0x101010 (a + 6) 16 (omega arith) (omega arith) in
      let g = and_block 8 ((d + 6) * 256 + (c + 6)) 0x1010 (b + 6) 16 (omega arith) (omega arith) in
      let m = and_block 8 (d + 6) 16 (c + 6) 16 (omega arith) (omega arith) in
      rw e (omega (arith, f, g, m, letter_bit a h, letter_bit b i, letter_bit c j, letter_bit d k))

  -- their characters and two spaces
  pub digits_sum : values_of a b c d + bit_and (values_of a b c d + 0x06060606) 0x10101010 / 16 * 39 + 0x202030303030
      ≡ le (digit 97 a ∷ digit 97 b ∷ digit 97 c ∷ digit 97 d ∷ 32 ∷ 32 ∷ [])
  unfolding le
  digits_sum = rw (letter_bits, digit_sum a h, digit_sum b i, digit_sum c j, digit_sum d k) (omega arith)

-- four hexadecimal digits and two spaces
pub offset_digits : (n : ℕ) → n < 65536 → le_bytes 6 (le (four_hex_digits 97 n ++ (32 ∷ 32 ∷ []))) ≡ hex_lower4 n ++ (32 ∷ 32 ∷ [])
unfolding hex_lower4 hex_lower
offset_digits n h =
    le_bytes_le (four_hex_digits 97 n ++ (32 ∷ 32 ∷ []))
    (bytes_each (four_hex_digits 97 n ++ (32 ∷ 32 ∷ []))
    (digit_byte (n / 256 / 16) (omega arith), (digit_byte (n / 256 % 16) (omega arith), (digit_byte (n % 256 / 16) (omega arith), (digit_byte (n % 256 % 16) (omega arith), (omega arith, (omega arith, omega arith)))))))
    ∙ ap (λ (l : List ℕ). l ++ (32 ∷ 32 ∷ [])) (sym (hex_four 97 n h))
