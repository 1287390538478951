-- The bits of a listed operand: how many there are, and those of an address from its target. Assumes nothing.
use mathlib.Core.Path.{◌≡◌, refl}
use mathlib.Core.Bool.{not}
use mathlib.Core.Logic.{◌⊎◌}
use mathlib.Core.Logic.◌⊎◌.{inl, inr}
use Prim.Native.Nat.{ℕ, ◌-◌, ◌%◌, ◌^◌, ◌≤◌, ◌<◌}
use native.Mathlib.Nat.{lt_of_lt_of_le, pow-le-pow_right}
use native.Mathlib.Omega.{arith}
use lib.Dec.{eqb, leb}
use borrow.Author.Tests.{ne_eqb, leb-true}
use Rattle.lists.proofs.Tests.{by_leb}
use Rattle.spec_numbers.specs.TwosComplement.{wrap_sub, extend8}
use Rattle.spec_numbers.proofs.SignedLaws.{distance_back, extend_small, extend_large}
use Rattle.spec_sheet.specs.Types.{family_of, width_of}
use Rattle.spec_sheet.proofs.TypeLaws.{below, implies, by_codes, by_address, width_most}
use Rattle.spec_listing.specs.Operand.{distance_of, target_of}

-- only a double is wider than four bytes
width_small : (c : ℕ) → c ≤ 12 → (family_of c ≡ 6 → ⊥) → width_of c ≤ 4
unfolding below implies family_of width_of
width_small c l n =
    leb-true (width_of c) 4
    (by_codes (λ d. not (eqb (family_of d) 6)) (λ d. leb (width_of d) 4) refl c l (rw (ne_eqb (family_of c) 6 n)))

-- bits that fit the width of their type are 32 bits, but for a double's
pub bits_32 : (code bits : ℕ) → code ≤ 12 → (family_of code ≡ 6 → ⊥) → bits < 256 ^ width_of code → bits < 2 ^ 32
bits_32 code bits l n h = lt_of_lt_of_le h (pow-le-pow_right {n = 256} (omega arith) (width_small code l n))

-- and 64 in any case
pub bits_64 : (code bits : ℕ) → bits < 256 ^ width_of code → bits < 2 ^ 64
bits_64 code bits h = lt_of_lt_of_le h (pow-le-pow_right {n = 256} (omega arith) (width_most code))

-- the 32 bits of a signed byte, and the byte again
extend_bound : (b : ℕ) → b < 256 → extend8 b < 2 ^ 32
extend_bound b h =
    by_leb 128 b (λ l. rw (extend_large b l h) (omega arith)) (λ l. rw (extend_small b l) (omega arith))

extend_byte : (b : ℕ) → b < 256 → extend8 b % 256 ≡ b
extend_byte b h =
    by_leb 128 b (λ l. rw (extend_large b l h) (omega arith)) (λ l. rw (extend_small b l) (omega arith))

module _ (code bits : ℕ) (f : family_of code ≡ 4) where
  distance_bound : bits < 256 ^ width_of code → distance_of code bits < 2 ^ 32
  unfolding distance_of width_of
  distance_bound = by_address (λ c. bits < 256 ^ width_of c → distance_of c bits < 2 ^ 32) code f (λ h. extend_bound bits h) (λ h. h)

  -- the bits are the low bytes of the distance
  pub distance_bits : bits < 256 ^ width_of code → distance_of code bits % 256 ^ width_of code ≡ bits
  unfolding distance_of width_of
  distance_bits =
      by_address (λ c. bits < 256 ^ width_of c → distance_of c bits % 256 ^ width_of c ≡ bits) code f (λ h. extend_byte bits h) (λ h. omega arith)

  -- the distance from the instruction to the target that is listed
  pub operand_distance : (at : ℕ) → at < 2 ^ 32 → bits < 256 ^ width_of code → wrap_sub (target_of at code bits) at ≡ distance_of code bits
  unfolding target_of
  operand_distance at l h = distance_back at (distance_of code bits) l (distance_bound h)

-- that of an Addr8 is from -128 to 127
pub distance_near : (bits : ℕ) → bits < 256 → (distance_of 9 bits < 128) ⊎ (2 ^ 32 - 128 ≤ distance_of 9 bits)
unfolding distance_of
distance_near bits h =
    by_leb 128 bits (λ l. inr (rw (extend_large bits l h) (omega arith))) (λ l. inl (rw (extend_small bits l) l))
