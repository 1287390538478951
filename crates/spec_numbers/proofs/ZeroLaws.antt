-- What trailing zeros say of divisibility, and leading zeros of a number's highest bit. Assumes nothing.
use mathlib.Core.Path.{◌≡◌, refl, sym, ◌∙◌, subst}
use Prim.Native.Nat.{ℕ, zero, suc, ◌+◌, ◌-◌, ◌*◌, ◌/◌, ◌%◌, ◌^◌, ◌≤◌, ◌<◌}
use native.Mathlib.Nat.{mod-one, mul-le-mul_right, lt_of_lt_of_le}
use native.Mathlib.Numerals.{add-one}
use native.Mathlib.Omega.{arith}
use lib.Count.{count_trailing_zeros, under, count_leading_zeros, leading_top}
use lib.Pow.{mod-pow-add, pow_mono, pow-add, shl_lt, shr_lt, shr_mono, shl-shr}
use Rattle.lists.proofs.Tests.{by_leb}
use Rattle.spec_numbers.specs.Double.{top_bit}

mod_step : (n k : ℕ) → n % 2 ^ suc k ≡ (n / 2 % 2 ^ k) * 2 + n % 2
mod_step n k = rw (← add-one k) (mod-pow-add n k 1)

-- the bits below the trailing zeros' end are all zero
pub low_zero : (d k n : ℕ) → k ≤ count_trailing_zeros d n → n % 2 ^ k ≡ 0
unfolding count_trailing_zeros
low_zero d zero n h = mod-one n
low_zero zero (suc k) n h = absurd (omega arith)
low_zero (suc d) (suc k) n h = go (n % 2) refl (low_zero d k (n / 2)) h
  where
    go : (b : ℕ) → n % 2 ≡ b → (k ≤ count_trailing_zeros d (n / 2) → n / 2 % 2 ^ k ≡ 0) → suc k ≤ under b (count_trailing_zeros d (n / 2)) → n % 2 ^ suc k ≡ 0
    go zero e ih h = mod_step n k ∙ rw (e, ih (omega arith))
    go (suc b) e ih h = absurd (omega arith)

-- and no more than those
pub low_not_zero : (d k n : ℕ) → k ≤ d → count_trailing_zeros d n < k → n % 2 ^ k ≡ 0 → ⊥
unfolding count_trailing_zeros
low_not_zero d zero n l h e = omega arith
low_not_zero zero (suc k) n l h e = omega arith
low_not_zero (suc d) (suc k) n l h e = go (n % 2) refl (low_not_zero d k (n / 2) (omega arith)) h
  where
    go : (b : ℕ) → n % 2 ≡ b → (count_trailing_zeros d (n / 2) < k → n / 2 % 2 ^ k ≡ 0 → ⊥) → under b (count_trailing_zeros d (n / 2)) < suc k → ⊥
    go zero f ih h = ih (omega arith) (omega (arith, mod_step n k))
    go (suc b) f ih h = omega (arith, mod_step n k)

-- the place t of the highest bit: 2^t ≤ n < 2^(t+1)
pub record Top (n : ℕ) : Type 0 where
  pub zeros : count_leading_zeros 64 n ≤ 63
  pub below : 2 ^ top_bit n ≤ n
  pub above : n < 2 ^ suc (top_bit n)
  pub fits : top_bit n ≤ 52

pub top_bit_lem : (n : ℕ) → 0 < n → n < 2 ^ 53 → Top n
top_bit_lem n p h =
    let t = leading_top 64 n p (omega arith) in
    let e : top_bit n ≡ t.0 = omega (arith, t.1) in
    let b : 2 ^ top_bit n ≤ n = rw e t.2 in
    record {
      zeros = omega (arith, t.1);
      below = b;
      above = rw e t.3;
      fits = by_leb (top_bit n) 52 (λ f. f) (λ f. absurd (omega (arith, pow_mono {i = 53} {j = top_bit n} f, b)));
    }

-- the significand: n with its highest set bit at place 52
pub sig_range : (n : ℕ) → 0 < n → n < 2 ^ 53 → (2 ^ 52 ≤ n * 2 ^ (52 - top_bit n)) × (n * 2 ^ (52 - top_bit n) < 2 ^ 53)
sig_range n p h =
    let t = top_bit_lem n p h in
    let k = 52 - top_bit n in
    let a : top_bit n + k ≡ 52 = omega (arith, t.fits) in
    let b : suc (top_bit n) + k ≡ 53 = omega (arith, t.fits) in (
      subst (λ (x : ℕ). 2 ^ x ≤ n * 2 ^ k) a (rw (pow-add 2 (top_bit n) k) (mul-le-mul_right (2 ^ k) t.below)),
      subst (λ (x : ℕ). n * 2 ^ k < 2 ^ x) b (shl_lt (suc (top_bit n)) k t.above),
    )

-- a number has one highest bit
pub one_top : (n i j : ℕ) → 2 ^ i ≤ n → n < 2 ^ suc i → 2 ^ j ≤ n → n < 2 ^ suc j → i ≡ j
one_top n i j a b c d =
    by_leb (suc i) j (λ h. absurd (omega (arith, pow_mono {i = suc i} {j = j} h)))
    (λ h. by_leb (suc j) i (λ k. absurd (omega (arith, pow_mono {i = suc j} {j = i} k))) (λ k. omega arith))

-- the highest bit of a significand that k zero bits were taken off
pub top_of_scaled : (s k : ℕ) → 2 ^ 52 ≤ s → s < 2 ^ 53 → k ≤ 52 → (0 < s / 2 ^ k) × (s / 2 ^ k < 2 ^ 53) × (top_bit (s / 2 ^ k) ≡ 52 - k)
top_of_scaled s k l h r =
    let n = s / 2 ^ k in
    let a : suc (52 - k) + k ≡ 53 = omega arith in
    let b : (52 - k) + k ≡ 52 = omega arith in
    let up : n < 2 ^ suc (52 - k) = shr_lt (suc (52 - k)) k (subst (λ (x : ℕ). s < 2 ^ x) (sym a) h) in
    let wide : 2 ^ (52 - k) * 2 ^ k ≤ s = rw (← pow-add 2 (52 - k) k, b) l in
    let down : 2 ^ (52 - k) ≤ n = subst (λ (x : ℕ). x ≤ n) (shl-shr (2 ^ (52 - k)) k) (shr_mono k wide) in
    let small : n < 2 ^ 53 = lt_of_lt_of_le up (pow_mono {i = suc (52 - k)} {j = 53} (omega arith)) in
    let some : 0 < n = lt_of_lt_of_le (pow_mono {i = 0} {j = 52 - k} (omega arith)) down in
    let t = top_bit_lem n some small in
    (some, small, one_top n (top_bit n) (52 - k) t.below t.above down up)
