use Rattle.std.proofs.Common.{◌≡◌, ℕ, ◌+◌, ◌%◌, ◌<◌, pos, negsuc, ◌-ℤ◌, ap, ◌∙◌, arith, to_z-of_z, w8, w16, SFits, to_z, of_z, le-ltb, lt-ltb}
use mir.Facts.{to_z_pos}
use Rattle.lists.proofs.Tests.{by_leb}
use Rattle.spec_numbers.specs.TwosComplement.{signed}
use Rattle.spec_numbers.proofs.SignedLaws.{signed_bound}
use Rattle.numbers.proofs.signed.as_i8.Goals as goal

-- n is the remainder by 256 of a byte and 128
module _ (b n : ℕ) (l : b < 256) (e : n ≡ (b + 128) % 256) where
  -- 128 less is what the byte reads as: the byte where it is below 128, else 256 less than it
  difference : to_z w16 n -ℤ pos 128 ≡ signed 8 b
  difference =
      rw (to_z_pos w16 {n = n} (omega arith))
      (by_leb 128 b
      (λ h. rw (le-ltb b 128 h, lt-ltb n 128 (omega arith)) (ap negsuc (omega arith)))
      (λ h. rw (lt-ltb b 128 h, le-ltb n 128 (omega arith)) (ap pos (omega arith))))

  fits_16 : SFits w16 (to_z w16 n -ℤ pos 128)
  fits_16 = rw difference (record { sfits = omega (arith, signed_bound 8 b (omega arith) l) })

  fits_8 : SFits w8 (to_z w16 (of_z w16 (to_z w16 n -ℤ pos 128)))
  fits_8 = rw (to_z-of_z fits_16, difference) (record { sfits = signed_bound 8 b (omega arith) l })

  value : to_z w8 (of_z w8 (to_z w16 (of_z w16 (to_z w16 n -ℤ pos 128)))) ≡ signed 8 b
  value = to_z-of_z fits_8 ∙ (to_z-of_z fits_16 ∙ difference)

pub overflow_sub-result : goal.overflow_sub-result
overflow_sub-result c = search (fits_16, c.ranges.b.fits)

pub overflow_cast-result-3 : goal.overflow_cast-result-3
overflow_cast-result-3 c = search (fits_8, c.ranges.b.fits)

pub returns : goal.returns
returns c = search (value, c.ranges.b.fits)
