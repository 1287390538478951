-- The ways through the reading of a double, one law for each. Assumes nothing.
use Rattle.std.proofs.Common.{◌≡◌, ℕ, ◌+◌, ◌-◌, ◌^◌, ◌<◌, ◌≤◌, true, false, List, [], ◌∷◌, Some, None, length, get_or, drop, sym, refl, ap, ◌∙◌, arith, length-drop, eq-eqb, ne_eqb, le-leb}
use borrow.Author.Tests.{lt-leb}
use Rattle.lists.specs.Scan.{same, opens}
use Rattle.spec_numbers.specs.Parse.{Parsed, unsigned_value}
use Rattle.spec_numbers.specs.Parse.Parsed.{is, bad}
use Rattle.spec_numbers.specs.Double.{negative, infinite, bits_of_whole, infinity_text, hex_mark, with_sign, whole_digits, read_whole, read_hex16, read_double}
use Rattle.numbers.specs.Answers.{number_of}
use Rattle.numbers.proofs.AnswerLaws.{number_is, number_bad}

-- digits: too many, none that are a number, and a number
module _ (sign : ℕ) (s : List ℕ) where
  pub digits_many : 16 < length s → with_sign sign (whole_digits s) ≡ bad
  unfolding with_sign whole_digits
  digits_many h = rw (lt-leb _ _ h)

  module _ (few : length s ≤ 16) where
    digits_are : (p : Parsed) → unsigned_value 10 (2 ^ 53) s ≡ p → with_sign sign (whole_digits s) ≡ with_sign sign p
    unfolding whole_digits
    digits_are p e = rw (le-leb _ _ few, e)

    pub digits_none : number_of (unsigned_value 10 (2 ^ 53) s) ≡ None → number_of (with_sign sign (whole_digits s)) ≡ None
    unfolding with_sign
    digits_none e = ap number_of (digits_are bad (number_bad _ e))

    pub digits_some : (n : ℕ) → number_of (unsigned_value 10 (2 ^ 53) s) ≡ Some n → number_of (with_sign sign (whole_digits s)) ≡ Some (sign + bits_of_whole n)
    unfolding with_sign
    digits_some n e = ap number_of (digits_are (is n) (number_is _ n e))

-- a sign and digits
module _ (s : List ℕ) where
  pub whole_minus : get_or s 0 0 ≡ 45 → read_whole s ≡ with_sign negative (whole_digits (drop 1 s))
  unfolding read_whole
  whole_minus e = rw (eq-eqb _ _ e)

  module _ (m : get_or s 0 0 ≡ 45 → ⊥) where
    pub whole_plus : get_or s 0 0 ≡ 43 → read_whole s ≡ with_sign 0 (whole_digits (drop 1 s))
    unfolding read_whole
    whole_plus e = rw (ne_eqb _ _ m, eq-eqb _ _ e)

    pub whole_plain : (get_or s 0 0 ≡ 43 → ⊥) → read_whole s ≡ with_sign 0 (whole_digits s)
    unfolding read_whole
    whole_plain e = rw (ne_eqb _ _ m, ne_eqb _ _ e)

pub whole_empty : (s : List ℕ) → length s ≡ 0 → read_whole s ≡ bad
unfolding read_whole with_sign whole_digits unsigned_value
whole_empty [] h = refl
whole_empty (b ∷ s) h = absurd (omega arith)

-- hex digits behind a mark of two characters
pub hex_short : (s : List ℕ) → (length s ≡ 18 → ⊥) → read_hex16 (drop 2 s) ≡ bad
unfolding read_hex16
hex_short s h = rw (ne_eqb (length (drop 2 s)) 16 (λ e. h (let l : length s - 2 ≡ 16 = sym (length-drop 2 s) ∙ e in omega arith)))

pub hex_full : (s : List ℕ) → length s ≡ 18 → read_hex16 (drop 2 s) ≡ unsigned_value 16 (2 ^ 64 - 1) (drop 2 s)
unfolding read_hex16
hex_full s h = rw (eq-eqb (length (drop 2 s)) 16 (simp length-drop (omega arith)))

-- the two words, the mark, and the rest
module _ (s : List ℕ) where
  pub double_infinity : same s infinity_text ≡ true → read_double s ≡ is infinite
  unfolding read_double
  double_infinity e = rw e

  module _ (no_word : same s infinity_text ≡ false) where
    pub double_minus_infinity : same s (45 ∷ infinity_text) ≡ true → read_double s ≡ is (negative + infinite)
    unfolding read_double
    double_minus_infinity e = rw (no_word, e)

    module _ (no_minus_word : same s (45 ∷ infinity_text) ≡ false) where
      pub double_hex : opens hex_mark s ≡ true → read_double s ≡ read_hex16 (drop 2 s)
      unfolding read_double
      double_hex e = rw (no_word, no_minus_word, e)

      pub double_whole : opens hex_mark s ≡ false → read_double s ≡ read_whole s
      unfolding read_double
      double_whole e = rw (no_word, no_minus_word, e)
