-- The target of an address. Assumes nothing.
use mathlib.Core.Path.{◌≡◌}
use Prim.Native.Nat.{ℕ, ◌^◌, ◌<◌}
use native.Mathlib.Omega.{arith}
use borrow.Author.Tests.{eq-eqb, ne_eqb}
use Rattle.spec_sheet.specs.Types.{width_of, family_of}
use Rattle.spec_sheet.proofs.TypeLaws.{family_address}
use Rattle.spec_numbers.specs.TwosComplement.{wrap_add, extend8}
use Rattle.spec_listing.specs.Operand.{distance_of, target_of}

module _ (code bits : ℕ) where
  -- an Addr8 is a byte
  pub near_bits : code ≡ 9 → bits < 256 ^ width_of code → bits < 256
  unfolding width_of
  near_bits e h = rw e at h

  -- an Addr32 has 32 bits
  pub far_bits : family_of code ≡ 4 → (code ≡ 9 → ⊥) → bits < 256 ^ width_of code → bits < 2 ^ 32
  unfolding width_of
  far_bits f n h =
      let e : code ≡ 10 = omega (arith, family_address code f, n) in
      rw e at h

  -- the distance of an Addr8 is extended
  pub near_target : (at : ℕ) → code ≡ 9 → wrap_add at (extend8 bits) ≡ target_of at code bits
  unfolding target_of distance_of
  near_target at e = rw (eq-eqb code 9 e)

  -- that of an Addr32 is as it stands
  pub far_target : (at : ℕ) → (code ≡ 9 → ⊥) → wrap_add at bits ≡ target_of at code bits
  unfolding target_of distance_of
  far_target at n = rw (ne_eqb code 9 n)
