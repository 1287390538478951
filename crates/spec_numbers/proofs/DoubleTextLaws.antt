-- The length and the characters of a printed double. Assumes nothing.
use mathlib.Core.Path.{◌≡◌, refl}
use mathlib.Core.Bool.{Bool, true}
use mathlib.Core.List.{List, ◌++◌}
use Prim.Native.Nat.{ℕ, ◌%◌, ◌^◌, ◌≤◌, ◌<◌}
use native.Mathlib.Omega.{arith}
use lib.ListN.{length, length-append}
use borrow.Author.Tests.{eq-eqb, ne_eqb, lt-ltb, le-ltb}
use Rattle.lists.specs.Scan.{all}
use Rattle.lists.specs.Text.{text}
use Rattle.lists.proofs.Scans.{all_append}
use Rattle.lists.proofs.Tests.{by_eqb, by_leb}
use Rattle.spec_numbers.specs.Print.{digit, digits, decimal, hex_upper, hex_upper16}
use Rattle.spec_numbers.specs.Parse.{Parsed}
use Rattle.spec_numbers.specs.Parse.Parsed.{is, bad}
use Rattle.spec_numbers.specs.Double.{print_double, whole_of, sign_of, sign_text, infinity_text, infinite, hex_mark}
use Rattle.spec_numbers.proofs.PrintLaws.{digits_all, digits_some, padded_all}
use Rattle.spec_numbers.proofs.DoubleLaws.{print_whole, print_infinity, print_hex, decimal_few, hex16_length}
use Rattle.spec_numbers.proofs.WholeLaws.{whole_of_lem}

-- what holds of each of the three forms holds of what is printed
by_form : (P : List ℕ → Type 0) (bits : ℕ) → ((n : ℕ) → n ≤ 2 ^ 53 → P (sign_text (sign_of bits) ++ decimal n)) → P (sign_text (sign_of bits) ++ infinity_text) → P (hex_mark ++ hex_upper16 bits) → P (print_double bits)
by_form P bits whole infinity hex = go (whole_of bits) refl
  where
    go : (w : Parsed) → whole_of bits ≡ w → P (print_double bits)
    go (is n) q = rw (print_whole bits q) (whole n (whole_of_lem bits n q).most)
    go bad q = by_eqb (bits % 2 ^ 63) infinite (λ i. rw (print_infinity bits q i) infinity) (λ i. rw (print_hex bits q i) hex)

sign_length : (sign : ℕ) → length (sign_text sign) ≤ 1
unfolding sign_text
sign_length sign = by_eqb sign 0 (λ z. rw (eq-eqb _ _ z) (omega arith)) (λ z. rw (ne_eqb _ _ z) (omega arith))

decimal_some : (n : ℕ) → 0 < length (decimal n)
unfolding decimal
decimal_some n = digits_some 10 97 (omega arith) 19 n

-- one character at least, and 18 at most
pub double_length : (bits : ℕ) → (0 < length (print_double bits)) × (length (print_double bits) ≤ 18)
unfolding infinity_text hex_mark text
double_length bits =
    by_form (λ s. (0 < length s) × (length s ≤ 18)) bits
    (λ n h. let f = decimal_few n (omega arith) in
    rw length-append (omega (arith, decimal_some n), omega (arith, sign_length (sign_of bits))))
    (rw length-append (omega arith, omega (arith, sign_length (sign_of bits))))
    (rw length-append (omega arith, omega (arith, hex16_length bits)))

-- digits, letters and `-` are all there is
module _ (p : ℕ → Bool) (minus : p 45 ≡ true) (digit' : (b : ℕ) → 48 ≤ b → b ≤ 57 → p b ≡ true) (upper : (b : ℕ) → 65 ≤ b → b ≤ 90 → p b ≡ true) (lower : (b : ℕ) → 97 ≤ b → b ≤ 122 → p b ≡ true) where
  sign_every : (sign : ℕ) → all p (sign_text sign) ≡ true
  unfolding sign_text all
  sign_every sign = by_eqb sign 0 (λ z. rw (eq-eqb _ _ z)) (λ z. rw (ne_eqb _ _ z, minus))

  digit_every : (d : ℕ) → d < 16 → p (digit 65 d) ≡ true
  unfolding digit
  digit_every d h =
      by_leb 10 d (λ l. rw (le-ltb d 10 l) (upper _ (omega arith) (omega arith))) (λ l. rw (lt-ltb d 10 l) (digit' _ (omega arith) (omega arith)))

  small_every : (d : ℕ) → d < 10 → p (digit 97 d) ≡ true
  unfolding digit
  small_every d h = rw (lt-ltb d 10 h) (digit' _ (omega arith) (omega arith))

  decimal_every : (n : ℕ) → all p (decimal n) ≡ true
  unfolding decimal
  decimal_every n = digits_all 10 97 (omega arith) p small_every 20 n

  hex_every : (n : ℕ) → all p (hex_upper16 n) ≡ true
  unfolding hex_upper16 hex_upper
  hex_every n = padded_all 16 p (digits 16 65 16 n) (digit' 48 (omega arith) (omega arith)) (digits_all 16 65 (omega arith) p digit_every 16 n)

  word_every : all p infinity_text ≡ true
  unfolding infinity_text text all
  word_every = rw (upper 73 (omega arith) (omega arith), lower 110 (omega arith) (omega arith), lower 102 (omega arith) (omega arith), lower 105 (omega arith) (omega arith), lower 116 (omega arith) (omega arith), lower 121 (omega arith) (omega arith))

  mark_every : all p hex_mark ≡ true
  unfolding hex_mark text all
  mark_every = rw (digit' 48 (omega arith) (omega arith), lower 120 (omega arith) (omega arith))

  pub double_every : (bits : ℕ) → all p (print_double bits) ≡ true
  double_every bits =
      by_form (λ s. all p s ≡ true) bits
      (λ n h. all_append p (sign_text (sign_of bits)) (decimal n) (sign_every (sign_of bits)) (decimal_every n))
      (all_append p (sign_text (sign_of bits)) infinity_text (sign_every (sign_of bits)) word_every)
      (all_append p hex_mark (hex_upper16 bits) mark_every (hex_every bits))
