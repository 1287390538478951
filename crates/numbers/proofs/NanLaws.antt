-- Which patterns are NaNs, and that they are all one value. Assumes nothing.
use Rattle.std.proofs.Common.{◌≡◌, ℕ, ◌%◌, ◌^◌, ◌<◌, ◌≤◌, Bool, true, false, not, T, sym, refl, ◌∙◌, le-ltb, lt-ltb}
use lib.Ieee.{Float, nan, inf, fin, is_nan, nan_bits, of_bits, binary64, div}
use lib.Ieee.Bits.{nan_bits_is, nan_bits_above}
use Rattle.spec_numbers.specs.Double.{infinite}

-- a float that is a NaN is the one NaN
is_nan_lem : (x : Float) → is_nan x ≡ true → x ≡ nan
unfolding is_nan
is_nan_lem nan e = refl
is_nan_lem (inf s) e = let z : ◌≡◌ {A = Bool} false true = e in (cc)
is_nan_lem (fin s m e') e = let z : ◌≡◌ {A = Bool} false true = e in (cc)

-- patterns up to infinity's, sign aside, are no NaN's, and those above are
pub no_nan : (bits : ℕ) → bits % 2 ^ 63 ≤ infinite → T (not (nan_bits binary64 bits))
no_nan bits h = rw (nan_bits_above binary64 bits, le-ltb infinite (bits % 2 ^ 63) h) tt

pub a_nan : (bits : ℕ) → infinite < bits % 2 ^ 63 → of_bits binary64 bits ≡ nan
a_nan bits h =
    is_nan_lem (of_bits binary64 bits)
    (sym (nan_bits_is binary64 bits) ∙ (nan_bits_above binary64 bits ∙ lt-ltb infinite (bits % 2 ^ 63) h))

pub zero_by_zero : div binary64 (of_bits binary64 0) (of_bits binary64 0) ≡ nan
unfolding div of_bits
zero_by_zero = refl
