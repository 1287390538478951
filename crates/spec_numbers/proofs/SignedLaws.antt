-- Signed numbers and their bits determine each other; wrapping sums and differences undo each other. Assumes nothing.
use mathlib.Core.Path.{◌≡◌}
use Prim.Native.Nat.{ℕ, zero, suc, ◌+◌, ◌-◌, ◌*◌, ◌^◌, ◌≤◌, ◌<◌}
use native.Mathlib.Nat.{pow-suc}
use native.Mathlib.Omega.{arith}
use lib.IntN.{ℤ, pos, negsuc}
use lib.Signed.{mag}
use borrow.Author.Tests.{lt-ltb, le-ltb}
use Rattle.lists.proofs.Tests.{by_leb}
use Rattle.spec_numbers.specs.TwosComplement.{signed, unsigned, wrap_sub, wrap_add, extend8}

-- the bits of what bits read as
pub unsigned_signed : (k n : ℕ) → n < 2 ^ k → unsigned k (signed k n) ≡ n
unsigned_signed k n h =
    by_leb (2 ^ (k - 1)) n (λ l. rw (le-ltb n (2 ^ (k - 1)) l) (omega arith)) (λ l. rw (lt-ltb n (2 ^ (k - 1)) l))

-- what the bits of a number in range read as
pub signed_unsigned : (k : ℕ) (z : ℤ) → 1 ≤ k → mag z < 2 ^ (k - 1) → signed k (unsigned k z) ≡ z
signed_unsigned k (pos n) p h = rw (lt-ltb n (2 ^ (k - 1)) h)
signed_unsigned zero (negsuc n) p h = absurd (omega arith)
signed_unsigned (suc k) (negsuc n) p h =
    let e : suc k - 1 ≡ k = omega arith in
    let t : 2 ^ suc k ≡ 2 ^ k * 2 = pow-suc 2 k in
    let l : n < 2 ^ k = rw e at h in
    let q : 2 ^ suc k - suc (2 ^ suc k - suc n) ≡ n = omega arith in
    rw (e, le-ltb (2 ^ suc k - suc n) (2 ^ k) (omega arith), q)

-- and bits read as a number in range
pub signed_bound : (k n : ℕ) → 1 ≤ k → n < 2 ^ k → mag (signed k n) < 2 ^ (k - 1)
signed_bound zero n p h = absurd (omega arith)
signed_bound (suc k) n p h =
    let e : suc k - 1 ≡ k = omega arith in
    rw e
    (by_leb (2 ^ k) n (λ l. rw (le-ltb n (2 ^ k) l) (omega (arith, pow-suc 2 k))) (λ l. rw (lt-ltb n (2 ^ k) l) l))

-- the distance to a target that was made from a distance
pub distance_back : (o d : ℕ) → o < 2 ^ 32 → d < 2 ^ 32 → wrap_sub (wrap_add o d) o ≡ d
distance_back o d h l = omega arith

-- the target that a distance was made for
pub target_back : (o t : ℕ) → o < 2 ^ 32 → t < 2 ^ 32 → wrap_add o (wrap_sub t o) ≡ t
target_back o t h l = omega arith

-- a byte below 128 is its own 32 bits
pub extend_small : (b : ℕ) → b < 128 → extend8 b ≡ b
unfolding extend8
extend_small b h = rw (lt-ltb b 128 h)

-- a larger one has 24 bits set above it
pub extend_large : (b : ℕ) → 128 ≤ b → b < 256 → extend8 b ≡ b + (2 ^ 32 - 256)
unfolding extend8
extend_large b h l = rw (le-ltb b 128 h) (omega arith)
