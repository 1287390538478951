-- A number that may grow by a digit, against the largest that it may become. Assumes nothing.
use Rattle.std.proofs.Common.{◌≡◌, ℕ, suc, ◌+◌, ◌*◌, ◌/◌, ◌%◌, ◌<◌, ◌≤◌, true, false, eqb, ltb, leb, refl, ap, mul-le-mul_right, mod-lt, suc-mul, div-add-mod', arith, ltb-true, le-ltb, lt-ltb, eq-eqb, eqb-true, leb-false, leb-true}
use Rattle.lists.specs.Choice.{both}
use Rattle.lists.proofs.Tests.{true_not_false, both_left, both_right, by_test, by_leb, by_eqb}
use Rattle.numbers.specs.Room.{has_room}

module _ (base most n d : ℕ) (b : 0 < base) where
  -- `most` is its last digit behind its front
  whole : most / base * base + most % base ≡ most
  whole = div-add-mod' most base

  -- a number below another leaves at least one base to it
  below : (x y : ℕ) → x < y → x * base + base ≤ y * base
  below x y h = let l : suc x ≤ y = omega arith in rw suc-mul at (mul-le-mul_right base l)

  pub room : d < base → has_room (most / base) (most % base) n d ≡ true → n * base + d ≤ most
  room h e =
      by_test (ltb n (most / base))
      (λ t. omega (arith, whole, below n (most / base) (ltb-true n (most / base) t)))
      (λ t.
      let z : both (eqb n (most / base)) (leb d (most % base)) ≡ true = rw t at e in
      let q : n ≡ most / base = eqb-true n (most / base) (both_left (eqb n (most / base)) (leb d (most % base)) z) in
      let l : d ≤ most % base = leb-true d (most % base) (both_right (eqb n (most / base)) (leb d (most % base)) z) in
      let p : n * base ≡ most / base * base = ap (λ (x : ℕ). x * base) q in
      omega (arith, whole))

  pub no_room : has_room (most / base) (most % base) n d ≡ false → most < n * base + d
  no_room e =
      by_leb (most / base) n
      (λ l. by_eqb n (most / base)
      (λ q.
      let z : leb d (most % base) ≡ false = rw (le-ltb n (most / base) l, eq-eqb n (most / base) q) at e in
      let p : n * base ≡ most / base * base = ap (λ (x : ℕ). x * base) q in
      omega (arith, whole, leb-false d (most % base) z))
      (λ q. omega (arith, whole, mod-lt most b, below (most / base) n (omega arith))))
      (λ l. true_not_false true refl (rw (lt-ltb n (most / base) l) at e))
