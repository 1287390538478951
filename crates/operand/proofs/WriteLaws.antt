-- Laws of operands from values. Assumes nothing.
use mathlib.Core.Logic.{◌⊎◌, inl, inr}
use Rattle.std.proofs.Common.{◌≡◌, ℕ, zero, suc, ◌+◌, ◌*◌, ◌/◌, ◌%◌, ◌^◌, ◌≤◌, ◌<◌, Bool, true, false, ltb, leb, eqb, [], ℤ, Some, None, refl, ap, sym, ◌∙◌, arith, lt-ltb, le-ltb, le-leb, eq-eqb, ne_eqb}
use native.Mathlib.Nat.{pow-suc, one-le-pow, pow-le-pow_right, lt_of_lt_of_le, le-div_iff_mul-le, one-mul, div-eq_of_lt, mul_assoc, mod-lt, mod-add-div'}
use lib.ListN.{get_or-eq_default}
use borrow.Author.Tests.{leb-true}
use Rattle.std.specs.Bool.{then_some}
use Rattle.std.specs.Float.Ieee.{Float}
use Rattle.lists.specs.Choice.{pick, either}
use Rattle.lists.proofs.Tests.{by_leb, both_left}
use Rattle.numbers.proofs.ByteSums.{bytes_bits}
use Rattle.spec_numbers.specs.LittleEndian.{le_bytes}
use Rattle.spec_sheet.specs.Types.{widths, width_of, kind_of}
use Rattle.spec_sheet.proofs.TypeLaws.{kind_most}
use Rattle.sheet.specs.Families.{family_number}
use Rattle.sheet.specs.declared.family.Family.{Family}
use Rattle.sheet.specs.declared.family.Family.TheVariants.{NoOperand, Reg, UInt, Str, Addr, Imm32, Double}
use Rattle.spec_body.specs.Encode.{Fitted, good_pair, encode_unsigned, encode_addr8, encode_signed32, encode_double, encode_operand}
use Rattle.spec_body.specs.Encode.Fitted.{fits, no_fit}
use Rattle.spec_body.proofs.OperandLaws.{kind_width, kept, pair_bound, same_fits, no_fit_not}
use Rattle.operand.specs.declared.value.OperandValue.{OperandValue}
use Rattle.operand.specs.declared.value.OperandValue.TheVariants.{U8, U16, U32, I8, I32, F64}
use Rattle.operand.specs.Value.{value_of, kind_of_value, bits_of_value}
use Rattle.operand.specs.Write.{write_operand, fitted_of}
use Rattle.operand.proofs.ValueLaws.{kind_back, bits_low, bits_back}

-- what was fitted, by the answer
pub fitted_bits : (p : Fitted) (n : ℕ) → fitted_of p ≡ Some n → p ≡ fits n
fitted_bits (fits m) n e = let q : m ≡ n = cc e in ap fits q
fitted_bits no_fit n e = absurd (let z : ◌≡◌ {A = ℕ} 0 1 = cc e in omega arith)

pub fitted_misfit : (p : Fitted) → fitted_of p ≡ None → p ≡ no_fit
fitted_misfit (fits m) e = absurd (let z : ◌≡◌ {A = ℕ} 0 1 = cc e in omega arith)
fitted_misfit no_fit e = refl

-- a number has at most w bytes where nothing is left when they are shifted out
pub shifted_out : (w n : ℕ) → eqb (n / 2 ^ (8 * w)) 0 ≡ ltb n (256 ^ w)
shifted_out w n =
    let p : 0 < 2 ^ (8 * w) = one-le-pow (8 * w) 2 (omega arith) in
    rw (bytes_bits w)
    (by_leb (2 ^ (8 * w)) n
    (λ l. let m : 1 * 2 ^ (8 * w) ≤ n = rw (one-mul (2 ^ (8 * w))) l in
    let q : 1 ≤ n / 2 ^ (8 * w) = (le-div_iff_mul-le p).1 m in
    ne_eqb (n / 2 ^ (8 * w)) 0 (λ e. omega (arith, e, q)) ∙ sym (le-ltb n (2 ^ (8 * w)) l))
    (λ l. eq-eqb (n / 2 ^ (8 * w)) 0 (div-eq_of_lt l) ∙ sym (lt-ltb n (2 ^ (8 * w)) l)))

pub wide_enough : (w n : ℕ) → 8 ≤ w → n < 2 ^ 64 → true ≡ ltb n (256 ^ w)
wide_enough w n h l = sym (lt-ltb n (256 ^ w) (lt_of_lt_of_le l (pow-le-pow_right {n = 256} (omega arith) h)))

-- the number of a value under each conversion
fitted_if : (b : Bool) (n : ℕ) → then_some b n ≡ fitted_of (pick b (fits n) no_fit)
fitted_if true n = refl
fitted_if false n = refl

pub unsigned_if : (code k n : ℕ) → k ≤ 2 → then_some (ltb n (256 ^ width_of code)) n ≡ fitted_of (encode_unsigned code k n)
unfolding encode_unsigned
unsigned_if code k n h = rw (le-leb k 2 h) (fitted_if (ltb n (256 ^ width_of code)) n)

pub signed_byte_if : (n : ℕ) → then_some (either (ltb n 128) (leb 4294967168 n)) (n % 256) ≡ fitted_of (encode_addr8 4 n)
unfolding encode_addr8
signed_byte_if n = fitted_if (either (ltb n 128) (leb 4294967168 n)) (n % 256)

pub no_unsigned : (v : OperandValue) (beside code : ℕ) → ((x : ℕ) → v ≡ U8 x → ⊥) → ((x : ℕ) → v ≡ U16 x → ⊥) → ((x : ℕ) → v ≡ U32 x → ⊥)
    → None ≡ fitted_of (encode_unsigned code (kind_of_value v) (bits_of_value v beside))
unfolding encode_unsigned kind_of_value bits_of_value
no_unsigned (U8 x) beside code a b d = absurd (a x refl)
no_unsigned (U16 x) beside code a b d = absurd (b x refl)
no_unsigned (U32 x) beside code a b d = absurd (d x refl)
no_unsigned (I8 x) beside code a b d = refl
no_unsigned (I32 x) beside code a b d = refl
no_unsigned (F64 x) beside code a b d = refl

pub no_address : (v : OperandValue) (beside : ℕ) → ((x : ℕ) → v ≡ U8 x → ⊥) → ((x : ℤ) → v ≡ I8 x → ⊥) → ((x : ℤ) → v ≡ I32 x → ⊥)
    → None ≡ fitted_of (encode_addr8 (kind_of_value v) (bits_of_value v beside))
unfolding encode_addr8 kind_of_value bits_of_value
no_address (U8 x) beside a b d = absurd (a x refl)
no_address (U16 x) beside a b d = refl
no_address (U32 x) beside a b d = refl
no_address (I8 x) beside a b d = absurd (b x refl)
no_address (I32 x) beside a b d = absurd (d x refl)
no_address (F64 x) beside a b d = refl

pub own_bits : (v : OperandValue) (beside b : ℕ) → ((x : ℤ) → v ≡ I8 x → ⊥) → ((x : Float) → v ≡ F64 x → ⊥)
    → Some (bits_of_value v b) ≡ fitted_of (encode_signed32 (kind_of_value v) (bits_of_value v beside))
unfolding encode_signed32 kind_of_value bits_of_value
own_bits (U8 x) beside b a d = refl
own_bits (U16 x) beside b a d = refl
own_bits (U32 x) beside b a d = refl
own_bits (I8 x) beside b a d = absurd (a x refl)
own_bits (I32 x) beside b a d = refl
own_bits (F64 x) beside b a d = absurd (d x refl)

pub no_double : (v : OperandValue) (beside : ℕ) → ((x : Float) → v ≡ F64 x → ⊥) → None ≡ fitted_of (encode_double (kind_of_value v) (bits_of_value v beside))
unfolding encode_double kind_of_value
no_double (U8 x) beside d = refl
no_double (U16 x) beside d = refl
no_double (U32 x) beside d = refl
no_double (I8 x) beside d = refl
no_double (I32 x) beside d = refl
no_double (F64 x) beside d = absurd (d x refl)

-- the families of the types that take an unsigned value, and the others
pub family_low : (f : Family) (n : ℕ) → family_number f ≡ n → (f ≡ NoOperand) ⊎ ((f ≡ Reg) ⊎ ((f ≡ UInt) ⊎ (f ≡ Str))) → n ≤ 3
unfolding family_number
family_low NoOperand n e x = omega (arith, e)
family_low Reg n e x = omega (arith, e)
family_low UInt n e x = omega (arith, e)
family_low Str n e x = omega (arith, e)
family_low Addr n e x = elim x [ inl a ↦ (cc a) | inr y ↦ elim y [ inl a ↦ (cc a) | inr z ↦ elim z [ inl a ↦ (cc a) | inr a ↦ (cc a) ] ] ]
family_low Imm32 n e x = elim x [ inl a ↦ (cc a) | inr y ↦ elim y [ inl a ↦ (cc a) | inr z ↦ elim z [ inl a ↦ (cc a) | inr a ↦ (cc a) ] ] ]
family_low Double n e x = elim x [ inl a ↦ (cc a) | inr y ↦ elim y [ inl a ↦ (cc a) | inr z ↦ elim z [ inl a ↦ (cc a) | inr a ↦ (cc a) ] ] ]

pub family_high : (f : Family) (n : ℕ) → family_number f ≡ n → (f ≡ NoOperand → ⊥) → (f ≡ Reg → ⊥) → (f ≡ UInt → ⊥) → (f ≡ Str → ⊥) → 3 < n
unfolding family_number
family_high NoOperand n e a b c d = absurd (a refl)
family_high Reg n e a b c d = absurd (b refl)
family_high UInt n e a b c d = absurd (c refl)
family_high Str n e a b c d = absurd (d refl)
family_high Addr n e a b c d = omega (arith, e)
family_high Imm32 n e a b c d = omega (arith, e)
family_high Double n e a b c d = omega (arith, e)

-- a pair that is no shape fault has its bits within its kind, so that its value is written as the pair is encoded
pub pair_kind : (kind bits : ℕ) → good_pair kind bits ≡ true → kind ≤ 5
unfolding good_pair
pair_kind kind bits e = leb-true kind 5 (both_left _ _ e)

pub value_encoded : (code kind bits : ℕ) (v : OperandValue) → good_pair kind bits ≡ true → v ≡ value_of kind bits → write_operand code v bits ≡ encode_operand code kind bits
unfolding write_operand
value_encoded code kind bits v e q =
    let k : kind ≤ 5 = pair_kind kind bits e in
    rw (q, kind_back kind bits k, bits_back kind bits k (pair_bound kind bits e))

-- a number and its low bytes alone have the same low bytes
more_bytes : (w n m : ℕ) → le_bytes w (n + m * 256 ^ w) ≡ le_bytes w n
unfolding le_bytes
more_bytes zero n m = refl
more_bytes (suc w) n m =
    let p : m * 256 ^ suc w ≡ m * 256 ^ w * 256 = ap (λ (x : ℕ). m * x) (pow-suc 256 w) ∙ sym (mul_assoc m (256 ^ w) 256) in
    let a : (n + m * 256 ^ suc w) % 256 ≡ n % 256 = rw p (omega arith) in
    let b : (n + m * 256 ^ suc w) / 256 ≡ n / 256 + m * 256 ^ w = rw p (omega arith) in
    rw (a, b, more_bytes w (n / 256) m)

low_bytes : (w n : ℕ) → le_bytes w (n % 256 ^ w) ≡ le_bytes w n
low_bytes w n = sym (more_bytes w (n % 256 ^ w) (n / 256 ^ w)) ∙ ap (le_bytes w) (mod-add-div' n (256 ^ w))

-- what is no type has no bytes
width_none : (code : ℕ) → (0 < code → code ≤ 12 → ⊥) → width_of code ≡ 0
unfolding width_of
width_none zero h = refl
width_none (suc c) h = get_or-eq_default widths 0 (by_leb (suc c) 12 (λ l. absurd (h (omega arith) l)) (λ l. l))

by_type : {P : Type 0} (code : ℕ) → (0 < code → code ≤ 12 → P) → (width_of code ≡ 0 → P) → P
by_type code y n = by_leb 1 code (λ h. by_leb code 12 (y h) (λ l. n (width_none code (λ a b. omega arith)))) (λ h. n (width_none code (λ a b. omega arith)))

-- a number as a value of a type's own kind is written as the number's low bytes
module _ (code n : ℕ) (v : OperandValue) (m : n < 2 ^ 64) (q : v ≡ value_of (kind_of code) n) where
  own_written : 0 < code → code ≤ 12 → write_operand code v n ≡ fits (n % 256 ^ width_of code)
  unfolding write_operand
  own_written h l =
      rw (q, kind_back (kind_of code) n (kind_most code), bits_low (kind_of code) n (kind_most code) m, kind_width code h l)
      (kept code h l (n % 256 ^ width_of code) (mod-lt n (one-le-pow (width_of code) 256 (omega arith))))

  pub written_low : (w : ℕ) → write_operand code v n ≡ fits w → le_bytes (width_of code) w ≡ le_bytes (width_of code) n
  unfolding le_bytes
  written_low w e = by_type code (λ h l. rw (same_fits (sym e ∙ own_written h l)) (low_bytes (width_of code) n)) (λ z. rw z)

  pub written_none : write_operand code v n ≡ no_fit → le_bytes (width_of code) n ≡ []
  unfolding le_bytes
  written_none e = by_type code (λ h l. no_fit_not (sym e ∙ own_written h l)) (λ z. rw z)
