-- What is written of an operand is the number that was given. Assumes nothing.
use mathlib.Core.Path.{◌≡◌, refl, ap, sym, ◌∙◌}
use mathlib.Core.Bool.{Bool, true, false}
use Prim.Native.Nat.{ℕ, suc, ◌-◌, ◌*◌, ◌%◌, ◌^◌, ◌≤◌, ◌<◌}
use native.Mathlib.Nat.{lt_of_lt_of_le}
use native.Mathlib.Omega.{arith}
use lib.Dec.{eqb, leb, ltb}
use borrow.Author.Tests.{lt-ltb, le-ltb, ltb-true, leb-true}
use Rattle.lists.specs.Choice.{pick, both, either}
use Rattle.lists.proofs.Tests.{by_test}
use Rattle.spec_numbers.specs.TwosComplement.{signed, extend8}
use Rattle.spec_body.specs.Encode.Fitted.{fits, no_fit}
use Rattle.spec_numbers.proofs.SignedLaws.{signed_unsigned, signed_bound}
use Rattle.spec_body.proofs.OperandLaws.{no_fit_not, same_fits}
use Rattle.spec_sheet.specs.Types.{width_of, family_of}
use Rattle.spec_body.specs.Encode.{encode_unsigned, encode_addr8, encode_signed32, encode_double, encode_operand}
use Rattle.spec_body.proofs.OperandLaws.{by_class, by_choice}

-- a byte with its sign has the same sign in 32 bits, and back
extend_number : (b : ℕ) → b < 256 → signed 32 (extend8 b) ≡ signed 8 b
unfolding extend8
extend_number b h = signed_unsigned 32 (signed 8 b) (omega arith) (lt_of_lt_of_le (signed_bound 8 b (omega arith) h) (omega arith))

narrow_number : (bits : ℕ) → bits < 2 ^ 32 → either (ltb bits 128) (leb (2 ^ 32 - 128) bits) ≡ true → signed 8 (bits % 256) ≡ signed 32 bits
narrow_number bits h t =
    by_test (ltb bits 128)
    (λ y. let l : bits < 128 = ltb-true bits 128 y in
    let e : bits % 256 ≡ bits = omega arith in
    let m : bits < 2 ^ 31 = omega arith in
    rw (e, y, lt-ltb bits (2 ^ 31) m))
    (λ n. let l : 2 ^ 32 - 128 ≤ bits = leb-true (2 ^ 32 - 128) bits (rw n at t) in
    let e : 128 ≤ bits % 256 = omega arith in
    let m : 2 ^ 31 ≤ bits = omega arith in
    let q : 2 ^ 8 - suc (bits % 256) ≡ 2 ^ 32 - suc bits = omega arith in
    rw (le-ltb (bits % 256) 128 e, le-ltb bits (2 ^ 31) m, q))

-- so an I8 and an I32 are written as the number that they are, into whatever takes them
module _ (bits v : ℕ) where
  unsigned_kind : (kind c : ℕ) {P : Type 0} → leb kind 2 ≡ false → leb (family_of c) 3 ≡ true → encode_operand c kind bits ≡ fits v → P
  unfolding encode_operand encode_unsigned
  unsigned_kind kind c k f e = no_fit_not (rw (f, k) at e)

  pub i8_number : bits < 256 → (c : ℕ) → 0 < c → c ≤ 12 → encode_operand c 3 bits ≡ fits v → signed (8 * width_of c) v ≡ signed 8 bits
  unfolding encode_operand encode_addr8 encode_signed32 encode_double family_of width_of
  i8_number h =
      by_class (λ c. encode_operand c 3 bits ≡ fits v → signed (8 * width_of c) v ≡ signed 8 bits) (λ c f k. unsigned_kind 3 c refl f)
      (λ e. ap (signed 8) (sym (same_fits e))) wide wide no_fit_not
    where
      wide : fits (extend8 bits) ≡ fits v → signed 32 v ≡ signed 8 bits
      wide e = ap (signed 32) (sym (same_fits e)) ∙ extend_number bits h

  pub i32_number : bits < 2 ^ 32 → (c : ℕ) → 0 < c → c ≤ 12 → encode_operand c 4 bits ≡ fits v → signed (8 * width_of c) v ≡ signed 32 bits
  unfolding encode_operand encode_addr8 encode_signed32 encode_double family_of width_of
  i32_number h =
      by_class (λ c. encode_operand c 4 bits ≡ fits v → signed (8 * width_of c) v ≡ signed 32 bits) (λ c f k. unsigned_kind 4 c refl f) near wide wide no_fit_not
    where
      near : pick (either (ltb bits 128) (leb (2 ^ 32 - 128) bits)) (fits (bits % 256)) no_fit ≡ fits v → signed 8 v ≡ signed 32 bits
      near e =
          by_choice (either (ltb bits 128) (leb (2 ^ 32 - 128) bits)) (fits (bits % 256)) no_fit e
          (λ t r. ap (signed 8) (sym (same_fits r)) ∙ narrow_number bits h t) (λ t r. no_fit_not r)

      wide : fits bits ≡ fits v → signed 32 v ≡ signed 32 bits
      wide e = ap (signed 32) (sym (same_fits e))

-- and what is neither is written by its bits
module _ (kind bits v : ℕ) (a : eqb kind 3 ≡ false) (b : eqb kind 4 ≡ false) where
  as_is : (t : Bool) → pick t (fits bits) no_fit ≡ fits v → v ≡ bits
  as_is true e = sym (same_fits e)
  as_is false e = no_fit_not e

  bits_unsigned : (c : ℕ) → leb (family_of c) 3 ≡ true → encode_operand c kind bits ≡ fits v → v ≡ bits
  unfolding encode_operand encode_unsigned
  bits_unsigned c f e = as_is (both (leb kind 2) (ltb bits (256 ^ width_of c))) (rw f at e)

  bits_addr8 : encode_addr8 kind bits ≡ fits v → v ≡ bits
  unfolding encode_addr8
  bits_addr8 e = as_is (eqb kind 0) (rw (a, b) at e)

  bits_signed32 : encode_signed32 kind bits ≡ fits v → v ≡ bits
  unfolding encode_signed32
  bits_signed32 e = as_is (leb kind 4) (rw a at e)

  bits_double : encode_double kind bits ≡ fits v → v ≡ bits
  unfolding encode_double
  bits_double e = as_is (eqb kind 5) e

  pub other_bits : (c : ℕ) → 0 < c → c ≤ 12 → encode_operand c kind bits ≡ fits v → v ≡ bits
  unfolding encode_operand family_of
  other_bits = by_class (λ c. encode_operand c kind bits ≡ fits v → v ≡ bits) (λ c f k. bits_unsigned c f) bits_addr8 bits_signed32 bits_signed32 bits_double
