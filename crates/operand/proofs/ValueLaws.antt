-- Laws of operand values. Assumes nothing.
use mathlib.Core.Path.{◌≡◌, refl, ap, sym, ◌∙◌}
use mathlib.Core.List.{List}
use Prim.Native.Nat.{ℕ, zero, suc, ◌+◌, ◌%◌, ◌^◌, ◌≤◌, ◌<◌}
use native.Mathlib.Nat.{mod-eq_of_lt, lt_of_lt_of_le, pow-le-pow_right}
use native.Mathlib.Omega.{arith}
use lib.Dec.{eqb, leb}
use lib.ListN.{get_or, get_or-eq_default}
use borrow.Author.Tests.{leb-true}
use Rattle.lists.specs.Scan.{part}
use Rattle.lists.specs.Choice.{pick}
use Rattle.lists.proofs.Tests.{by_leb, by_eqb}
use Rattle.spec_numbers.specs.LittleEndian.{le}
use Rattle.spec_numbers.proofs.SignedLaws.{unsigned_signed}
use Rattle.spec_sheet.specs.Types.{widths, width_of, kinds, kind_of}
use Rattle.spec_sheet.proofs.TypeLaws.{kind_most}
use Rattle.spec_body.specs.Encode.{kind_widths}
use Rattle.spec_body.proofs.OperandLaws.{every}
use Rattle.operand.specs.declared.value.Operand.{Operand}
use Rattle.operand.specs.Value.{value_of, kind_of_value, bits_of_value, operand_at, kind_in, bits_in}

-- a value of a kind has that kind
pub kind_back : (kind bits : ℕ) → kind ≤ 5 → kind_of_value (value_of kind bits) ≡ kind
unfolding kind_of_value
kind_back zero bits h = refl
kind_back (suc zero) bits h = refl
kind_back (suc (suc zero)) bits h = refl
kind_back (suc (suc (suc zero))) bits h = refl
kind_back (suc (suc (suc (suc zero)))) bits h = refl
kind_back (suc (suc (suc (suc (suc zero))))) bits h = refl
kind_back (suc (suc (suc (suc (suc (suc k)))))) bits h = absurd (omega arith)

-- and of the bits as many as the kind has
pub bits_low : (kind bits : ℕ) → kind ≤ 5 → bits < 2 ^ 64 → bits_of_value (value_of kind bits) bits ≡ bits % 256 ^ get_or kind_widths kind 0
unfolding bits_of_value
bits_low zero bits h l = refl
bits_low (suc zero) bits h l = refl
bits_low (suc (suc zero)) bits h l = refl
bits_low (suc (suc (suc zero))) bits h l = unsigned_signed 8 (bits % 256) (omega arith)
bits_low (suc (suc (suc (suc zero)))) bits h l = unsigned_signed 32 (bits % 4294967296) (omega arith)
bits_low (suc (suc (suc (suc (suc zero))))) bits h l = sym (mod-eq_of_lt l)
bits_low (suc (suc (suc (suc (suc (suc k)))))) bits h l = absurd (omega arith)

-- no kind has more than eight bytes
kind_width_most : (kind : ℕ) → kind ≤ 5 → get_or kind_widths kind 0 ≤ 8
kind_width_most kind h = leb-true _ 8 (every (λ k. leb (get_or kind_widths k 0) 8) 0 6 refl kind (omega arith) (omega arith))

-- so those that are within their kind are all there
pub bits_back : (kind bits : ℕ) → kind ≤ 5 → bits < 256 ^ get_or kind_widths kind 0 → bits_of_value (value_of kind bits) bits ≡ bits
bits_back kind bits h k =
    bits_low kind bits h (lt_of_lt_of_le k (pow-le-pow_right {n = 256} (omega arith) (kind_width_most kind h))) ∙ mod-eq_of_lt k

-- a type has no more bytes than its kind
width_within : (code : ℕ) → width_of code ≤ get_or kind_widths (kind_of code) 0
unfolding width_of kind_of
width_within code =
    by_leb code 12
    (λ h. leb-true _ _ (every (λ c. leb (get_or widths c 0) (get_or kind_widths (get_or kinds c 0) 0)) 0 13 refl code (omega arith) (omega arith)))
    (λ h. rw (get_or-eq_default widths 0 h) (omega arith))

-- what stands beside a value that is no double does not matter
beside_any : (kind bits a b : ℕ) → kind ≤ 4 → bits_of_value (value_of kind bits) a ≡ bits_of_value (value_of kind bits) b
unfolding bits_of_value
beside_any zero bits a b h = refl
beside_any (suc zero) bits a b h = refl
beside_any (suc (suc zero)) bits a b h = refl
beside_any (suc (suc (suc zero))) bits a b h = refl
beside_any (suc (suc (suc (suc zero)))) bits a b h = refl
beside_any (suc (suc (suc (suc (suc k))))) bits a b h = absurd (omega arith)

-- so a double's bits are enough
beside_double : (kind bits : ℕ) → kind ≤ 5 → bits_of_value (value_of kind bits) (pick (eqb kind 5) bits 0) ≡ bits_of_value (value_of kind bits) bits
beside_double kind bits h =
    by_eqb kind 5
    (λ e. rw e)
    (λ n. let l : kind ≤ 4 = omega (arith, n) in beside_any kind bits (pick (eqb kind 5) bits 0) bits l)

-- the operand of a type has the type's kind, and the number that its bytes are
pub operand_kind : (code : ℕ) (s : List ℕ) (at : ℕ) → kind_in (operand_at code s at) ≡ kind_of code
unfolding operand_at
operand_kind code s at = kind_back (kind_of code) _ (kind_most code)

pub operand_bits : (code : ℕ) (s : List ℕ) (at : ℕ) → le (part s at (width_of code)) < 256 ^ width_of code → bits_in (operand_at code s at) ≡ le (part s at (width_of code))
unfolding operand_at
operand_bits code s at h =
    beside_double (kind_of code) _ (kind_most code)
    ∙ bits_back (kind_of code) _ (kind_most code) (lt_of_lt_of_le h (pow-le-pow_right {n = 256} (omega arith) (width_within code)))

-- so has one that was read
module _ (code : ℕ) (s : List ℕ) (at bits : ℕ) (o : Operand) (e : o ≡ operand_at code s at) (l : le (part s at (width_of code)) < 256 ^ width_of code) (q : bits ≡ bits_in o) where
  pub read_bits : bits ≡ le (part s at (width_of code))
  read_bits = q ∙ (ap bits_in e ∙ operand_bits code s at l)

  pub read_below : bits < 256 ^ width_of code
  read_below = rw read_bits l

  -- and the position behind it
  pub read_next : o.next ≡ at + width_of code
  unfolding operand_at
  read_next = ap (λ (x : Operand). x.next) e
