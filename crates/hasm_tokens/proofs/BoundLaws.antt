-- How many bits a token's value has. Assumes nothing.
use mathlib.Core.Path.{◌≡◌, refl, ap, sym, ◌∙◌}
use mathlib.Core.List.{List, ◌∷◌}
use Prim.Native.Nat.{ℕ, ◌+◌, ◌-◌, ◌^◌, ◌≤◌, ◌<◌}
use native.Mathlib.Omega.{arith}
use lib.Dec.{eqb}
use lib.ListN.{length, drop, get_or}
use borrow.Author.Tests.{le-leb}
use Rattle.lists.specs.Scan.{same, opens}
use Rattle.lists.proofs.Tests.{by_test, by_eqb, by_leb}
use Rattle.spec_numbers.specs.Parse.{Parsed, parse_u32, parse_hex, parse_i32, unsigned_value}
use Rattle.spec_numbers.specs.Parse.Parsed.{is, bad}
use Rattle.spec_numbers.specs.Double.{bits_of_whole, negative, infinity_text, hex_mark, with_sign, whole_digits, read_whole, read_hex16, read_double}
use Rattle.spec_numbers.proofs.ParseLaws.{unsigned_bound, u32_bound, i32_bound}
use Rattle.spec_numbers.proofs.WholeLaws.{bad_not_is, same_is, bits_below}
use Rattle.numbers.proofs.ReadLaws.{digits_many, whole_minus, whole_plus, whole_plain, double_infinity, double_minus_infinity, double_hex, double_whole}
use Rattle.answers.specs.declared.refusal.OperandFault.{OperandFault}
use Rattle.answers.specs.declared.refusal.OperandFault.TheVariants as fault
use Rattle.spec_hasm.specs.Line.{has_hex_prefix}
use Rattle.spec_hasm.specs.Token as definition
use Rattle.spec_hasm.specs.Token.{number_or}
use Rattle.spec_hasm.specs.Token.Value.{value, refused}

-- a value is no refusal
pub refused_not_value : {P : Type 0} {f : OperandFault} {n : ℕ} → refused f ≡ value n → P
refused_not_value e = absurd (let z : ◌≡◌ {A = ℕ} 0 1 = cc e in omega arith)

pub same_value : {m n : ℕ} → value m ≡ value n → m ≡ n
same_value e = cc e

-- a value was read
pub number_was : (f : OperandFault) (n : ℕ) (p : Parsed) → number_or f p ≡ value n → p ≡ is n
unfolding number_or
number_was f n (is m) e = ap is (same_value e)
number_was f n bad e = refused_not_value e

module _ (t : List ℕ) (n : ℕ) where
  pub unsigned_below : definition.unsigned_value t ≡ value n → n < 2 ^ 32
  unfolding definition.unsigned_value
  unsigned_below e =
      by_test (has_hex_prefix t)
      (λ y. u32_bound 16 n (drop 2 t) (number_was fault.Number n (parse_hex (drop 2 t)) (rw y at e)))
      (λ y. u32_bound 10 n t (number_was fault.Number n (parse_u32 t) (rw y at e)))

  pub signed_below : number_or fault.Number (parse_i32 t) ≡ value n → n < 2 ^ 32
  signed_below e = i32_bound n t (number_was fault.Number n (parse_i32 t) e)

-- digits, no more than there may be
digits_are : (sign : ℕ) (s : List ℕ) (p : Parsed) → length s ≤ 16 → unsigned_value 10 (2 ^ 53) s ≡ p → with_sign sign (whole_digits s) ≡ with_sign sign p
unfolding whole_digits
digits_are sign s p h e = rw (le-leb _ _ h, e)

-- a double that was read: the digits of a whole number with a sign, hexadecimal digits, and a word
digits_below : (sign n : ℕ) (s : List ℕ) → sign ≤ 2 ^ 63 → with_sign sign (whole_digits s) ≡ is n → n < 2 ^ 64
digits_below sign n s h e =
    by_leb (length s) 16
    (λ l. go (unsigned_value 10 (2 ^ 53) s) refl (sym (digits_are sign s (unsigned_value 10 (2 ^ 53) s) l refl) ∙ e))
    (λ l. bad_not_is (sym (digits_many sign s l) ∙ e))
  where
    go : (p : Parsed) → unsigned_value 10 (2 ^ 53) s ≡ p → with_sign sign p ≡ is n → n < 2 ^ 64
    go (is m) q f = let z : sign + bits_of_whole m ≡ n = unfold with_sign in cc f in omega (arith, bits_below m (unsigned_bound 10 (2 ^ 53) m s q))
    go bad q f = unfold with_sign in bad_not_is f

whole_below : (n : ℕ) (s : List ℕ) → read_whole s ≡ is n → n < 2 ^ 64
whole_below n s e =
    by_eqb (get_or s 0 0) 45
    (λ m. digits_below negative n (drop 1 s) (omega arith) (sym (whole_minus s m) ∙ e))
    (λ m. by_eqb (get_or s 0 0) 43
    (λ p. digits_below 0 n (drop 1 s) (omega arith) (sym (whole_plus s m p) ∙ e))
    (λ p. digits_below 0 n s (omega arith) (sym (whole_plain s m p) ∙ e)))

hex_below : (n : ℕ) (s : List ℕ) → read_hex16 s ≡ is n → n < 2 ^ 64
unfolding read_hex16
hex_below n s e =
    by_test (eqb (length s) 16)
    (λ y. omega (arith, unsigned_bound 16 (2 ^ 64 - 1) n s (rw y at e)))
    (λ y. bad_not_is (rw y at e))

read_below : (n : ℕ) (s : List ℕ) → read_double s ≡ is n → n < 2 ^ 64
read_below n s e =
    by_test (same s infinity_text)
    (λ y. omega (arith, same_is (sym (double_infinity s y) ∙ e)))
    (λ y. by_test (same s (45 ∷ infinity_text))
    (λ z. omega (arith, same_is (sym (double_minus_infinity s y z) ∙ e)))
    (λ z. by_test (opens hex_mark s)
    (λ x. hex_below n (drop 2 s) (sym (double_hex s y z x) ∙ e))
    (λ x. whole_below n s (sym (double_whole s y z x) ∙ e))))
