-- A signed number of any width and its bits, in the machine's words. Assumes nothing.
use Rattle.std.proofs.Common.{◌≡◌, ℕ, ◌-◌, ◌^◌, ℤ, pos, negsuc, refl, w8, w16, w32, w64, to_z, of_z, le-ltb, lt-ltb}
use mir.Syntax.{Width, w128}
use mir.Val.{bits, hbits}
use Rattle.lists.proofs.Tests.{by_leb}
use Rattle.spec_numbers.specs.TwosComplement.{signed, unsigned}

half : (w : Width) → 2 ^ (bits w - 1) ≡ 2 ^ hbits w
half w8 = refl
half w16 = refl
half w32 = refl
half w64 = refl
half w128 = refl

-- `cast_unsigned` gives a number's bits
pub unsigned_bits : (w : Width) (x : ℤ) → of_z w x ≡ unsigned (bits w) x
unsigned_bits w (pos n) = refl
unsigned_bits w (negsuc n) = refl

-- and `cast_signed` the number of bits
pub signed_bits : (w : Width) (n : ℕ) → to_z w n ≡ signed (bits w) n
signed_bits w n = by_leb (2 ^ hbits w) n (λ l. rw (half w, le-ltb n (2 ^ hbits w) l)) (λ l. rw (half w, lt-ltb n (2 ^ hbits w) l))
