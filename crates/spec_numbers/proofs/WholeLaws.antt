-- From the bits of a whole double to its number and back. Assumes nothing.
use mathlib.Core.Path.{◌≡◌, refl, sym, ◌∙◌}
use Prim.Native.Nat.{ℕ, zero, suc, ◌+◌, ◌-◌, ◌*◌, ◌/◌, ◌%◌, ◌^◌, ◌≤◌, ◌<◌}
use native.Mathlib.Nat.{mul-mod_left}
use native.Mathlib.Omega.{arith}
use lib.Pow.{shl-shr, split}
use borrow.Author.Tests.{eq-eqb, ne_eqb, lt-ltb, le-ltb}
use Rattle.lists.proofs.Tests.{by_leb, by_eqb}
use Rattle.spec_numbers.specs.Double.{bits_of_whole, whole_of, whole_at, scaled, top_bit, exp_of, frac_of}
use Rattle.spec_numbers.specs.Parse.Parsed.{is, bad}
use Rattle.spec_numbers.proofs.ZeroLaws.{top_bit_lem, sig_range, top_of_scaled}

-- a text that is bad is no number
pub bad_not_is : {P : Type 0} {n : ℕ} → bad ≡ is n → P
bad_not_is e = absurd (let z : ◌≡◌ {A = ℕ} 0 1 = cc in omega arith)

pub same_is : {m n : ℕ} → is m ≡ is n → m ≡ n
same_is e = cc

-- the clauses of whole_at and bits_of_whole
at_normal : (e m s k : ℕ) → 1023 ≤ e → e ≤ 1075 → 2 ^ 52 + m ≡ s → 1075 - e ≡ k → whole_at e m ≡ scaled s k
unfolding whole_at
at_normal e m s k l h f g = rw (ne_eqb e 0 (λ z. omega arith), ne_eqb e 1076 (λ z. omega arith), le-ltb e 1023 l, le-ltb 1075 e h, f, g)

at_other : (e m : ℕ) → (e ≡ 0 → ⊥) → (e ≡ 1076 → ⊥) → (1023 ≤ e → e ≤ 1075 → ⊥) → whole_at e m ≡ bad
unfolding whole_at
at_other e m z t h =
    rw (ne_eqb e 0 z, ne_eqb e 1076 t)
    (by_leb 1023 e (λ l. rw (le-ltb e 1023 l, lt-ltb 1075 e (by_leb e 1075 (λ k. absurd (h l k)) (λ k. k)))) (λ l. rw (lt-ltb e 1023 l)))

bits_normal : (n : ℕ) → 0 < n → n < 2 ^ 53 → bits_of_whole n ≡ (top_bit n + 1023) * 2 ^ 52 + (n * 2 ^ (52 - top_bit n) - 2 ^ 52)
unfolding bits_of_whole
bits_normal n p h = rw (ne_eqb n 0 (λ z. omega arith), ne_eqb n (2 ^ 53) (λ z. omega arith))

-- what a whole number and its bits are to each other
pub record Whole (n bits : ℕ) : Type 0 where
  pub most : n ≤ 2 ^ 53
  pub back : bits_of_whole n ≡ bits

-- a significand whose low bits are zero
normal_back : (e m n : ℕ) → 1023 ≤ e → e ≤ 1075 → m < 2 ^ 52 → (2 ^ 52 + m) % 2 ^ (1075 - e) ≡ 0 → (2 ^ 52 + m) / 2 ^ (1075 - e) ≡ n → Whole n (e * 2 ^ 52 + m)
normal_back e m n l h r z d =
    let k = 1075 - e in
    let s = 2 ^ 52 + m in
    let t = rw d at (top_of_scaled s k (omega arith) (omega arith) (omega arith)) in
    let g : 52 - (52 - k) ≡ k = omega arith in
    let f : n * 2 ^ k ≡ s = omega (arith, rw (d, z) at (split s k)) in
    record { most = omega (arith, t.1); back = bits_normal n t.0 t.1 ∙ rw (t.2, g, f) (omega arith) }

normal_whole : (e m n : ℕ) → 1023 ≤ e → e ≤ 1075 → m < 2 ^ 52 → scaled (2 ^ 52 + m) (1075 - e) ≡ is n → Whole n (e * 2 ^ 52 + m)
unfolding scaled
normal_whole e m n l h r q =
    by_eqb ((2 ^ 52 + m) % 2 ^ (1075 - e)) 0
    (λ z. normal_back e m n l h r z (same_is (rw (eq-eqb _ _ z) at q)))
    (λ z. bad_not_is (rw (ne_eqb _ _ z) at q))

pub whole_at_lem : (e m n : ℕ) → m < 2 ^ 52 → whole_at e m ≡ is n → Whole n (e * 2 ^ 52 + m)
unfolding whole_at bits_of_whole
whole_at_lem e m n r q =
    by_eqb e 0
    (λ z. let f = rw (eq-eqb e 0 z) at q in
    by_eqb m 0
    (λ w. let g : 0 ≡ n = same_is (rw (eq-eqb m 0 w) at f) in record { most = omega arith; back = rw (← g, z, w) })
    (λ w. bad_not_is (rw (ne_eqb m 0 w) at f)))
    (λ z. by_eqb e 1076
    (λ y. let f = rw (ne_eqb e 0 z, eq-eqb e 1076 y) at q in
    by_eqb m 0
    (λ w. let g : 2 ^ 53 ≡ n = same_is (rw (eq-eqb m 0 w) at f) in record { most = omega arith; back = rw (← g, y, w) })
    (λ w. bad_not_is (rw (ne_eqb m 0 w) at f)))
    (λ y. by_leb 1023 e
    (λ l. by_leb e 1075
    (λ h. normal_whole e m n l h r (sym (at_normal e m _ _ l h refl refl) ∙ q))
    (λ h. bad_not_is (sym (at_other e m z y (λ a b. omega arith)) ∙ q)))
    (λ l. bad_not_is (sym (at_other e m z y (λ a b. omega arith)) ∙ q))))

-- the sign bit aside, the number has the bits that it came from
pub whole_of_lem : (bits n : ℕ) → whole_of bits ≡ is n → Whole n (bits % 2 ^ 63)
unfolding whole_of
whole_of_lem bits n q =
    let w = whole_at_lem (exp_of bits) (frac_of bits) n (omega arith) q in
    record { most = w.most; back = w.back ∙ omega arith }

-- and from the number's bits to the number
scaled_back : (n k : ℕ) → scaled (n * 2 ^ k) k ≡ is n
unfolding scaled
scaled_back n k = rw (mul-mod_left n (2 ^ k), shl-shr n k)

back_normal : (n : ℕ) → 0 < n → n < 2 ^ 53 → whole_of (bits_of_whole n) ≡ is n
unfolding whole_of
back_normal n p h =
    let t = top_bit_lem n p h in
    let r = sig_range n p h in
    let b = (top_bit n + 1023) * 2 ^ 52 + (n * 2 ^ (52 - top_bit n) - 2 ^ 52) in
    let e : exp_of b ≡ top_bit n + 1023 = omega (arith, t, r) in
    let f : frac_of b ≡ n * 2 ^ (52 - top_bit n) - 2 ^ 52 = omega (arith, t, r) in
    let g : 2 ^ 52 + (n * 2 ^ (52 - top_bit n) - 2 ^ 52) ≡ n * 2 ^ (52 - top_bit n) = omega (arith, r) in
    let k : 1075 - (top_bit n + 1023) ≡ 52 - top_bit n = omega (arith, t) in
    rw (bits_normal n p h, e, f) (at_normal _ _ _ _ (omega (arith, t)) (omega (arith, t)) g k ∙ scaled_back n (52 - top_bit n))

pub whole_back : (n : ℕ) → n ≤ 2 ^ 53 → whole_of (bits_of_whole n) ≡ is n
unfolding whole_of whole_at bits_of_whole
whole_back zero h = refl
whole_back (suc m) h =
    by_eqb (suc m) (2 ^ 53) (λ e. rw e) (λ e. back_normal (suc m) (omega arith) (omega (arith, e)))

-- every whole number's bits leave the sign bit clear
pub bits_below : (n : ℕ) → n ≤ 2 ^ 53 → bits_of_whole n < 2 ^ 63
unfolding bits_of_whole
bits_below n h =
    by_eqb n 0 (λ z. rw (eq-eqb n 0 z) (omega arith))
    (λ z. by_eqb n (2 ^ 53)
    (λ y. rw (ne_eqb n 0 z, eq-eqb n (2 ^ 53) y) (omega arith))
    (λ y. let p : 0 < n = omega (arith, z) in let l : n < 2 ^ 53 = omega (arith, y) in
    rw (bits_normal n p l) (omega (arith, top_bit_lem n p l, sig_range n p l))))
