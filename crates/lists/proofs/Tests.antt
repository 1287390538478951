-- Laws of tests, joined and taken apart. Assumes nothing.
use mathlib.Core.Path.{◌≡◌, refl, sym}
use Prim.Native.Nat.{ℕ, ◌≤◌, ◌<◌}
use native.Mathlib.Omega.{arith}
use mathlib.Core.Bool.{Bool, true, false, not}
use lib.Dec.{leb, eqb}
use borrow.Author.Tests.{le-leb, lt-leb, leb-true, leb-false, eqb-true, eqb-false}
use Rattle.lists.specs.Choice.{both, within}

pub true_not_false : {P : Type 0} (a : Bool) → a ≡ true → a ≡ false → P
true_not_false a e f = absurd (let z : ◌≡◌ {A = ℕ} 0 1 = cc in omega arith)

pub both_left : (a b : Bool) → both a b ≡ true → a ≡ true
both_left true b e = refl
both_left false b e = e

pub both_right : (a b : Bool) → both a b ≡ true → b ≡ true
both_right true b e = e
both_right false b e = true_not_false false e refl

pub both_yes : (a b : Bool) → a ≡ true → b ≡ true → both a b ≡ true
both_yes a b e f = rw (e, f)

pub both_no_left : (a b : Bool) → a ≡ false → both a b ≡ false
both_no_left a b e = rw e

pub both_no_right : (a b : Bool) → b ≡ false → both a b ≡ false
both_no_right true b e = e
both_no_right false b e = refl

pub not-true : (a : Bool) → not a ≡ true → a ≡ false
not-true false e = refl
not-true true e = sym e

-- a number in a range, below it and above it
module _ (lo hi b : ℕ) where
  -- in the range
  pub within_yes : lo ≤ b → b ≤ hi → within lo hi b ≡ true
  within_yes l h = rw (le-leb lo b l, le-leb b hi h)

  -- below it
  pub within_low : b < lo → within lo hi b ≡ false
  within_low h = rw (lt-leb lo b h)

  -- above it
  pub within_high : hi < b → within lo hi b ≡ false
  within_high h = both_no_right (leb lo b) (leb b hi) (lt-leb b hi h)

  -- what a number in the range is not below, and not above
  pub within_least : within lo hi b ≡ true → lo ≤ b
  within_least e = leb-true lo b (both_left (leb lo b) (leb b hi) e)

  pub within_most : within lo hi b ≡ true → b ≤ hi
  within_most e = leb-true b hi (both_right (leb lo b) (leb b hi) e)

-- one of two ways, by a test
pub by_test : {P : Type 0} (a : Bool) → (a ≡ true → P) → (a ≡ false → P) → P
by_test true f g = f refl
by_test false f g = g refl

pub by_leb : {P : Type 0} (a b : ℕ) → (a ≤ b → P) → (b < a → P) → P
by_leb a b f g = by_test (leb a b) (λ e. f (leb-true a b e)) (λ e. g (leb-false a b e))

pub by_eqb : {P : Type 0} (a b : ℕ) → (a ≡ b → P) → ((a ≡ b → ⊥) → P) → P
by_eqb a b f g = by_test (eqb a b) (λ e. f (eqb-true a b e)) (λ e. g (eqb-false a b e))
