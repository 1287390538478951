-- An operand by the read of its kind. Assumes nothing.
use Rattle.std.specs.Prelude.{Option, IsSome}
use Rattle.std.proofs.Common.{◌≡◌, ℕ, ◌+◌, ◌^◌, ◌≤◌, ◌<◌, List, ℤ, Some, refl, sym, ap, ◌∙◌, arith, length, get_or, eqb, le-leb, eq-eqb}
use native.Mathlib.Nat.{mod-eq_of_lt}
use lib.ListN.{get_or-eq_default}
use borrow.Author.Tests.{eqb-true}
use Rattle.lists.specs.Choice.{pick}
use Rattle.lists.specs.Scan.{part}
use Rattle.lists.proofs.Tests.{by_leb}
use Rattle.std.specs.Float.Ieee.{Float, of_bits}
use Rattle.std.specs.Float.{binary64}
use Rattle.spec_numbers.specs.LittleEndian.{le}
use Rattle.spec_numbers.specs.TwosComplement.{signed}
use Rattle.spec_sheet.specs.Types.{width_of, widths, kind_of, kinds}
use Rattle.spec_sheet.proofs.TypeLaws.{below, implies, by_codes, kind_widths, kind_width}
use Rattle.spec_body.proofs.ReencodeLaws.{part_below}
use Rattle.operand.specs.declared.reader.Read.{Read}
use Rattle.operand.specs.declared.value.Operand.{Operand}
use Rattle.operand.specs.declared.value.OperandValue.{OperandValue}
use Rattle.operand.specs.declared.value.OperandValue.TheVariants.{U8, U16, U32, I8, I32, F64}
use Rattle.operand.specs.Reader.{read_at}
use Rattle.operand.specs.Value.{value_of, operand_at}

-- a code that takes no bytes is decoded to a U8
no_kind : (code : ℕ) → width_of code ≡ 0 → kind_of code ≡ 0
unfolding below implies width_of kind_of
no_kind code e =
    by_leb code 12
    (λ h. eqb-true (kind_of code) 0 (by_codes (λ d. eqb (width_of d) 0) (λ d. eqb (kind_of d) 0) refl code h (eq-eqb (width_of code) 0 e)))
    (λ h. let z : length kinds ≤ code = omega arith in get_or-eq_default kinds 0 z)

-- any other code takes the bytes of its kind
kind_bytes : (code : ℕ) → (width_of code ≡ 0 → ⊥) → width_of code ≡ get_or kind_widths (kind_of code) 0
unfolding width_of
kind_bytes code n =
    by_leb code 12
    (λ h. kind_width code (by_leb 1 code (λ l. l) (λ l. absurd (n (let z : code ≡ 0 = omega arith in rw z)))) h)
    (λ h. absurd (n (let z : length widths ≤ code = omega arith in get_or-eq_default widths 0 z)))

-- what is said of an operand that was read
abbrev pub Taken : ℕ → List ℕ → ℕ → Operand → Type 0
Taken code s at o = (o ≡ operand_at code s at) × (le (part s at (width_of code)) < 256 ^ width_of code)

module _ (code : ℕ) (s : List ℕ) (at : ℕ) (room : at + width_of code ≤ length s) (bytes : (i : ℕ) → get_or s i 0 < 256) where
  number_below : le (part s at (width_of code)) < 256 ^ width_of code
  number_below = part_below s at (width_of code) bytes

  pub no_operand : width_of code ≡ 0 → (o : Operand) → o ≡ record { value = U8 0; bits = 0; next = at } → Taken code s at o
  unfolding operand_at le
  no_operand e o q = let z : at + 0 ≡ at = omega arith in (q ∙ rw (no_kind code e, e, z), number_below)

-- an operand of kind k takes the w bytes of its kind
pub kind_room : (code at k w n : ℕ) → at + width_of code ≤ n → (width_of code ≡ 0 → ⊥) → kind_of code ≡ k → get_or kind_widths k 0 ≡ w → at + w ≤ n
kind_room code at k w n room some kind few = omega (arith, kind_bytes code some ∙ (ap (λ (j : ℕ). get_or kind_widths j 0) kind ∙ few))

-- so a read of them finds them
pub kind_read : {A : Type 0} (code at k w : ℕ) (number : ℕ → A) (s : List ℕ) → at + width_of code ≤ length s → (width_of code ≡ 0 → ⊥) → kind_of code ≡ k → get_or kind_widths k 0 ≡ w
    → (o : Option (Read A)) → o ≡ read_at w number s at → IsSome o
kind_read code at k w number s room some kind few o e = rw (e, le-leb (at + w) (length s) (kind_room code at k w (length s) room some kind few))

-- which are there, and are read as the number that makes its value
module _ (code : ℕ) (s : List ℕ) (at : ℕ) (room : at + width_of code ≤ length s) (bytes : (i : ℕ) → get_or s i 0 < 256) (some : width_of code ≡ 0 → ⊥) where
  module _ {A : Type 0} (k w : ℕ) (number : ℕ → A) (make : A → OperandValue) (kind : kind_of code ≡ k) (few : get_or kind_widths k 0 ≡ w) (made : (n : ℕ) → n < 256 ^ w → make (number n) ≡ value_of k n) where
    width : width_of code ≡ w
    width = kind_bytes code some ∙ (ap (λ (j : ℕ). get_or kind_widths j 0) kind ∙ few)

    there : read_at w number s at ≡ Some (record { value = number (le (part s at w)); bits = le (part s at w); next = at + w })
    there = let h : at + w ≤ length s = omega (arith, width, room) in rw (le-leb (at + w) (length s) h)

    pub as_read : (r : Read A) → Some r ≡ read_at w number s at → (beside : ℕ) → beside ≡ pick (eqb k 5) r.bits 0
        → (o : Operand) → o ≡ record { value = make r.value; bits = beside; next = r.next } → Taken code s at o
    unfolding operand_at
    as_read r e beside b o q =
        let n = le (part s at w) in
        let f : r ≡ record { value = number n; bits = n; next = at + w } = cc (e, there) in
        let l : n < 256 ^ w = part_below s at w bytes in
        (q ∙ rw (b, f, made n l, kind, width), part_below s at (width_of code) bytes)

  -- the operands of the six kinds
  pub u8_operand : kind_of code ≡ 0 → (r : Read ℕ) → Some r ≡ read_at 1 (λ n. n) s at → (o : Operand) → o ≡ record { value = U8 r.value; bits = 0; next = r.next } → Taken code s at o
  u8_operand k r e = as_read 0 1 (λ n. n) U8 k refl (λ n h. ap U8 (sym (mod-eq_of_lt h))) r e 0 refl

  pub u16_operand : kind_of code ≡ 1 → (r : Read ℕ) → Some r ≡ read_at 2 (λ n. n) s at → (o : Operand) → o ≡ record { value = U16 r.value; bits = 0; next = r.next } → Taken code s at o
  u16_operand k r e = as_read 1 2 (λ n. n) U16 k refl (λ n h. ap U16 (sym (mod-eq_of_lt h))) r e 0 refl

  pub u32_operand : kind_of code ≡ 2 → (r : Read ℕ) → Some r ≡ read_at 4 (λ n. n) s at → (o : Operand) → o ≡ record { value = U32 r.value; bits = 0; next = r.next } → Taken code s at o
  u32_operand k r e = as_read 2 4 (λ n. n) U32 k refl (λ n h. ap U32 (sym (mod-eq_of_lt h))) r e 0 refl

  pub i8_operand : kind_of code ≡ 3 → (r : Read ℤ) → Some r ≡ read_at 1 (signed 8) s at → (o : Operand) → o ≡ record { value = I8 r.value; bits = 0; next = r.next } → Taken code s at o
  i8_operand k r e = as_read 3 1 (signed 8) I8 k refl (λ n h. ap (λ m. I8 (signed 8 m)) (sym (mod-eq_of_lt h))) r e 0 refl

  pub i32_operand : kind_of code ≡ 4 → (r : Read ℤ) → Some r ≡ read_at 4 (signed 32) s at → (o : Operand) → o ≡ record { value = I32 r.value; bits = 0; next = r.next } → Taken code s at o
  i32_operand k r e = as_read 4 4 (signed 32) I32 k refl (λ n h. ap (λ m. I32 (signed 32 m)) (sym (mod-eq_of_lt h))) r e 0 refl

  pub f64_operand : kind_of code ≡ 5 → (r : Read Float) → Some r ≡ read_at 8 (of_bits binary64) s at → (o : Operand) → o ≡ record { value = F64 r.value; bits = r.bits; next = r.next } → Taken code s at o
  f64_operand k r e = as_read 5 8 (of_bits binary64) F64 k refl (λ n h. refl) r e r.bits refl
