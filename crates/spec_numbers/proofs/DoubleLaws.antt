-- A double that was printed is read back, whatever its bits. Assumes nothing.
use mathlib.Core.Path.{◌≡◌, refl, ap, sym, ◌∙◌}
use mathlib.Core.Bool.{Bool, true, false}
use mathlib.Core.List.{List, [], ◌∷◌, ◌++◌}
use Prim.Native.Nat.{ℕ, ◌+◌, ◌-◌, ◌%◌, ◌^◌, ◌≤◌, ◌<◌}
use native.Mathlib.Nat.{zero-add}
use native.Mathlib.Omega.{arith}
use lib.Dec.{eqb}
use lib.ListN.{length, drop, get_or}
use borrow.Author.Tests.{eq-eqb, ne_eqb, le-leb, lt-leb}
use Rattle.lists.specs.Choice.{pick}
use Rattle.lists.specs.Scan.{same, opens}
use Rattle.lists.specs.Text.{text}
use Rattle.lists.proofs.Scans.{same_eq, opens_split}
use Rattle.lists.proofs.Tests.{by_test, by_eqb, by_leb}
use Rattle.spec_numbers.specs.Print.{digits, decimal, hex_upper, hex_upper16}
use Rattle.spec_numbers.specs.Parse.{Parsed, unsigned_value, digits_value, digit_value}
use Rattle.spec_numbers.specs.Parse.Parsed.{is, bad}
use Rattle.spec_numbers.specs.Double.{print_double, printed_as, whole_of, sign_of, sign_text, infinity_text, hex_mark, infinite, negative, read_double, read_whole, read_hex16, whole_digits, with_sign, bits_of_whole}
use Rattle.spec_numbers.proofs.WholeLaws.{bad_not_is, same_is, whole_of_lem, bits_below}
use Rattle.spec_numbers.proofs.ParseLaws.{unsigned_bound}
use Rattle.spec_numbers.proofs.PrintLaws.{digits_few, digits_length, padded_length}
use Rattle.spec_numbers.proofs.ReadBackLaws.{unsigned_decimal, unsigned_hex16}

-- A text that reads as a number is no word, mark or sign.

no_digit : (b : ℕ) (s : List ℕ) → digit_value b ≡ 16 → unsigned_value 10 (2 ^ 53) (b ∷ s) ≡ bad
unfolding unsigned_value digits_value
no_digit b s h = rw (h, digits_value)

word_bad : unsigned_value 10 (2 ^ 53) infinity_text ≡ bad
unfolding unsigned_value digits_value digit_value infinity_text text
word_bad = refl

mark_bad : (s : List ℕ) → unsigned_value 10 (2 ^ 53) (hex_mark ++ s) ≡ bad
unfolding unsigned_value digits_value digit_value hex_mark text
mark_bad s = refl

no_sign : {n : ℕ} (b : ℕ) (s : List ℕ) → digit_value b ≡ 16 → unsigned_value 10 (2 ^ 53) s ≡ is n → eqb (get_or s 0 0) b ≡ false
unfolding unsigned_value
no_sign b [] h e = bad_not_is e
no_sign b (a ∷ s) h e = ne_eqb a b (λ q. bad_not_is (sym (no_digit b s h) ∙ rw q at e))

module _ {n : ℕ} (s : List ℕ) (e : unsigned_value 10 (2 ^ 53) s ≡ is n) where
  no_word : same s infinity_text ≡ false
  no_word = by_test (same s infinity_text) (λ y. bad_not_is (sym word_bad ∙ rw (same_eq _ _ y) at e)) (λ f. f)

  no_minus_word : same s (45 ∷ infinity_text) ≡ false
  unfolding digit_value
  no_minus_word =
      by_test (same s (45 ∷ infinity_text)) (λ y. bad_not_is (sym (no_digit 45 infinity_text refl) ∙ rw (same_eq _ _ y) at e)) (λ f. f)

  no_mark : opens hex_mark s ≡ false
  no_mark =
      by_test (opens hex_mark s) (λ y. bad_not_is (sym (mark_bad (drop (length hex_mark) s)) ∙ ap (unsigned_value 10 (2 ^ 53)) (sym (opens_split hex_mark s y)) ∙ e)) (λ f. f)

  -- so it is read as digits, with a minus in front or without
  module _ (few : length s ≤ 16) where
    read_digits : read_double s ≡ is (bits_of_whole n)
    unfolding read_double read_whole whole_digits with_sign digit_value
    read_digits = rw (no_word, no_minus_word, no_mark, no_sign 45 s refl e, no_sign 43 s refl e, le-leb _ _ few, e) (ap is (zero-add (bits_of_whole n)))

    read_minus : read_double (45 ∷ s) ≡ is (negative + bits_of_whole n)
    unfolding read_double read_whole whole_digits with_sign same opens infinity_text hex_mark text
    read_minus = rw (no_word, le-leb _ _ few, e)

-- the three forms that are no digits
read_infinity : read_double infinity_text ≡ is infinite
unfolding read_double same infinity_text text
read_infinity = refl

read_minus_infinity : read_double (45 ∷ infinity_text) ≡ is (negative + infinite)
unfolding read_double same infinity_text text
read_minus_infinity = refl

read_hex : (s : List ℕ) → length s ≡ 16 → read_double (hex_mark ++ s) ≡ unsigned_value 16 (2 ^ 64 - 1) s
unfolding read_double read_hex16 same opens infinity_text hex_mark text
read_hex s h = rw (eq-eqb _ _ h)

-- Printing and reading back.

sign_clear : (bits : ℕ) → sign_of bits ≡ 0 → sign_text (sign_of bits) ≡ []
unfolding sign_text
sign_clear bits z = rw z

sign_set : (bits : ℕ) → (sign_of bits ≡ 0 → ⊥) → sign_text (sign_of bits) ≡ 45 ∷ []
unfolding sign_text
sign_set bits z = rw (ne_eqb _ _ z)

pub decimal_few : (n : ℕ) → n < 10 ^ 16 → length (decimal n) ≤ 16
unfolding decimal
decimal_few n h = digits_few 10 97 (omega arith) 19 15 n (omega arith) h

pub hex16_length : (n : ℕ) → length (hex_upper16 n) ≡ 16
unfolding hex_upper16 hex_upper
hex16_length n = padded_length 16 (digits 16 65 16 n) (digits_length 16 65 (omega arith) 16 n)

-- the three ways to print
module _ (bits : ℕ) where
  pub print_whole : {n : ℕ} → whole_of bits ≡ is n → print_double bits ≡ sign_text (sign_of bits) ++ decimal n
  unfolding print_double printed_as
  print_whole q = rw q

  pub print_infinity : whole_of bits ≡ bad → bits % 2 ^ 63 ≡ infinite → print_double bits ≡ sign_text (sign_of bits) ++ infinity_text
  unfolding print_double printed_as
  print_infinity q i = rw (q, eq-eqb _ _ i)

  pub print_hex : whole_of bits ≡ bad → (bits % 2 ^ 63 ≡ infinite → ⊥) → print_double bits ≡ hex_mark ++ hex_upper16 bits
  unfolding print_double printed_as
  print_hex q i = rw (q, ne_eqb _ _ i)

module _ (bits : ℕ) (h : bits < 2 ^ 64) where
  whole_read : (n : ℕ) → whole_of bits ≡ is n → read_double (print_double bits) ≡ is bits
  whole_read n q =
      let w = whole_of_lem bits n q in
      let m = w.most in
      let e : unsigned_value 10 (2 ^ 53) (decimal n) ≡ is n = unsigned_decimal (2 ^ 53) n m (omega arith) in
      let f : length (decimal n) ≤ 16 = decimal_few n (omega arith) in
      by_eqb (sign_of bits) 0
      (λ z. rw (print_whole bits q, sign_clear bits z) (read_digits (decimal n) e f ∙ ap is (w.back ∙ omega arith)))
      (λ z. rw (print_whole bits q, sign_set bits z) (read_minus (decimal n) e f ∙ ap is (omega (arith, w.back, z))))

  other_read : whole_of bits ≡ bad → read_double (print_double bits) ≡ is bits
  other_read q =
      by_eqb (bits % 2 ^ 63) infinite
      (λ i. by_eqb (sign_of bits) 0
      (λ z. rw (print_infinity bits q i, sign_clear bits z) (read_infinity ∙ ap is (omega arith)))
      (λ z. rw (print_infinity bits q i, sign_set bits z) (read_minus_infinity ∙ ap is (omega (arith, z)))))
      (λ i. rw (print_hex bits q i) (read_hex (hex_upper16 bits) (hex16_length bits) ∙ unsigned_hex16 bits h))

  pub read_printed : read_double (print_double bits) ≡ is bits
  read_printed = go (whole_of bits) refl
    where
      go : (p : Parsed) → whole_of bits ≡ p → read_double (print_double bits) ≡ is bits
      go (is n) q = whole_read n q
      go bad q = other_read q

-- Whatever is read is 64 bits.

abbrev Below : Parsed → Type 0
Below p = (b : ℕ) → p ≡ is b → b < 2 ^ 64

pick_below : (t : Bool) (p q : Parsed) → Below p → Below q → Below (pick t p q)
pick_below true p q f g = f
pick_below false p q f g = g

is_below : (n : ℕ) → n < 2 ^ 64 → Below (is n)
is_below n h b e = omega (arith, same_is e)

bad_below : Below bad
bad_below b e = bad_not_is e

digits_most : (s : List ℕ) (n : ℕ) → whole_digits s ≡ is n → n ≤ 2 ^ 53
unfolding whole_digits
digits_most s n e =
    by_leb (length s) 16 (λ h. unsigned_bound 10 (2 ^ 53) n s (rw (le-leb _ _ h) at e)) (λ h. bad_not_is (rw (lt-leb _ _ h) at e))

signed_below : (sign : ℕ) (s : List ℕ) → sign ≤ 2 ^ 63 → Below (with_sign sign (whole_digits s))
unfolding with_sign
signed_below sign s h = go (whole_digits s) refl
  where
    go : (p : Parsed) → whole_digits s ≡ p → Below (with_sign sign p)
    go (is n) e = is_below _ (omega (arith, bits_below n (digits_most s n e)))
    go bad e = bad_below

whole_below : (s : List ℕ) → Below (read_whole s)
unfolding read_whole
whole_below s =
    pick_below (eqb (get_or s 0 0) 45) _ _ (signed_below negative (drop 1 s) (omega arith))
    (pick_below (eqb (get_or s 0 0) 43) _ _ (signed_below 0 (drop 1 s) (omega arith)) (signed_below 0 s (omega arith)))

hex_below : (s : List ℕ) → Below (read_hex16 s)
unfolding read_hex16
hex_below s = pick_below (eqb (length s) 16) _ bad (λ b e. let m : b ≤ 2 ^ 64 - 1 = unsigned_bound 16 (2 ^ 64 - 1) b s e in omega arith) bad_below

pub read_below : (s : List ℕ) (b : ℕ) → read_double s ≡ is b → b < 2 ^ 64
unfolding read_double
read_below s =
    pick_below (same s infinity_text) _ _ (is_below infinite (omega arith))
    (pick_below (same s (45 ∷ infinity_text)) _ _ (is_below (negative + infinite) (omega arith))
    (pick_below (opens hex_mark s) _ _ (hex_below (drop 2 s)) (whole_below s)))
