-- Places: the index of a start is kept, and a distance reaches the place that it was taken to. Assumes nothing.
use mathlib.Core.Path.{◌≡◌, refl, ap, sym, ◌∙◌}
use mathlib.Core.Bool.{Bool, true, false}
use mathlib.Core.List.{List, [], ◌∷◌}
use Prim.Native.Nat.{ℕ, zero, suc, ◌+◌, ◌-◌, ◌*◌, ◌^◌, ◌≤◌, ◌<◌}
use native.Mathlib.Omega.{arith}
use lib.Dec.{eqb}
use lib.ListN.{length, get_or}
use borrow.Author.Tests.{eq-eqb, ne_eqb, lt-ltb, le-ltb, le-leb, lt-leb}
use Rattle.lists.specs.Found.Found.{found}
use Rattle.lists.proofs.Tests.{by_test, by_leb, by_eqb}
use Rattle.spec_sheet.specs.Row.{length_of}
use Rattle.spec_inputs.specs.Context.{Context}
use Rattle.spec_body.specs.Starts.{places_of}
use Rattle.spec_carry.specs.Meaning.{reaches, first_place}
use Rattle.spec_carry.specs.Passes.{distance_bits, moved_from, new_row}

-- a search
module _ (p : ℕ → Bool) where
  -- the first place that passes is found
  pub first_is : (xs : List ℕ) (b k : ℕ) → k < length xs → p (get_or xs k 0) ≡ true → ((j : ℕ) → j < k → p (get_or xs j 0) ≡ false) → first_place p b xs ≡ found (b + k)
  unfolding first_place
  first_is [] b k h t f = absurd (omega arith)
  first_is (x ∷ xs) b zero h t f = rw t (ap found (omega arith))
  first_is (x ∷ xs) b (suc k) h t f =
      let z : p x ≡ false = f 0 (omega arith) in
      rw z (first_is xs (suc b) k (omega arith) t (λ j l. f (suc j) (omega arith)) ∙ ap found (omega arith))

  -- what is found is one of the places
  pub first_inside : (xs : List ℕ) (b k : ℕ) → first_place p b xs ≡ found k → k < b + length xs
  unfolding first_place
  first_inside [] b k e = absurd (let z : ◌≡◌ {A = ℕ} 0 1 = cc e in omega arith)
  first_inside (x ∷ xs) b k e =
      by_test (p x)
      (λ h. let q : b ≡ k = cc (rw h at e) in omega arith)
      (λ h. omega (arith, first_inside xs (suc b) k (rw h at e)))

  -- it is not before the first number counted
  first_least : (xs : List ℕ) (b k : ℕ) → first_place p b xs ≡ found k → b ≤ k
  unfolding first_place
  first_least [] b k e = absurd (let z : ◌≡◌ {A = ℕ} 0 1 = cc e in omega arith)
  first_least (x ∷ xs) b k e =
      by_test (p x)
      (λ h. let q : b ≡ k = cc (rw h at e) in omega arith)
      (λ h. omega (arith, first_least xs (suc b) k (rw h at e)))

  -- and passes the test
  pub first_passes : (xs : List ℕ) (b k : ℕ) → first_place p b xs ≡ found k → p (get_or xs (k - b) 0) ≡ true
  unfolding first_place
  first_passes [] b k e = absurd (let z : ◌≡◌ {A = ℕ} 0 1 = cc e in omega arith)
  first_passes (x ∷ xs) b k e =
      by_test (p x)
      (λ h. let q : b ≡ k = cc (rw h at e) in let z : k - b ≡ 0 = omega arith in rw z h)
      (λ h. let f : first_place p (suc b) xs ≡ found k = rw h at e in
      let z : k - b ≡ suc (k - suc b) = omega (arith, first_least xs (suc b) k f) in
      rw z (first_passes xs (suc b) k f))

-- the old places and the new ones: as many, and the new ones rise
pub places_count : (rs : List (List ℕ)) (end : ℕ) → length (places_of rs end) ≡ suc (length rs)
unfolding places_of
places_count [] end = refl
places_count (r ∷ rs) end = ap suc (places_count rs end)

module _ (from into : Context) where
  pub moved_count : (at : ℕ) (rs : List (List ℕ)) → length (moved_from from into at rs) ≡ suc (length rs)
  unfolding moved_from
  moved_count at [] = refl
  moved_count at (r ∷ rs) = ap suc (moved_count (at + length_of (new_row from into r)) rs)

  -- each instruction has a byte at least
  pub moved_least : (at : ℕ) (rs : List (List ℕ)) (k : ℕ) → k ≤ length rs → at + k ≤ get_or (moved_from from into at rs) k 0
  unfolding moved_from
  moved_least at [] zero h = omega arith
  moved_least at [] (suc k) h = absurd (omega arith)
  moved_least at (r ∷ rs) zero h = omega arith
  moved_least at (r ∷ rs) (suc k) h = omega (arith, moved_least (at + length_of (new_row from into r)) rs k (omega arith))

  pub moved_rise : (at : ℕ) (rs : List (List ℕ)) (j k : ℕ) → j < k → k ≤ length rs → get_or (moved_from from into at rs) j 0 < get_or (moved_from from into at rs) k 0
  unfolding moved_from
  moved_rise at [] j k h l = absurd (omega arith)
  moved_rise at (r ∷ rs) j zero h l = absurd (omega arith)
  moved_rise at (r ∷ rs) zero (suc k) h l = omega (arith, moved_least (at + length_of (new_row from into r)) rs k (omega arith))
  moved_rise at (r ∷ rs) (suc j) (suc k) h l = moved_rise (at + length_of (new_row from into r)) rs j k (omega arith) (omega arith)

-- both numbers of a test less the same
eqb_shift : (a b p q m : ℕ) → a ≡ p + m → b ≡ q + m → eqb a b ≡ eqb p q
eqb_shift a b p q m e f =
    by_eqb p q
    (λ z. eq-eqb a b (omega arith) ∙ sym (eq-eqb p q z))
    (λ n. ne_eqb a b (λ z. n (omega arith)) ∙ sym (ne_eqb p q n))

-- a distance that fits reaches its place and no other; h is half the numbers of w bytes
module _ (w h at p : ℕ) (e : 2 ^ (8 * w - 1) ≡ h) (f : 2 ^ (8 * w) ≡ h + h) (some : 0 < h) (l : at ≤ p + h) (g : p < at + h) where
  pub distance_reaches : (q : ℕ) → reaches w at (distance_bits w at p) q ≡ eqb p q
  unfolding reaches distance_bits
  distance_reaches q =
      by_leb at p
      (λ y. let k : p - at < h = omega arith in
      rw (le-leb at p y, e, f, lt-ltb (p - at) h k) (eqb_shift (at + (p - at)) (q + 0) p q 0 (omega arith) (omega arith)))
      (λ y. let k : h ≤ h + h - (at - p) = omega arith in
      rw (lt-leb at p y, e, f, le-ltb (h + h - (at - p)) h k) (eqb_shift (at + (h + h - (at - p))) (q + (h + h)) p q (h + h) (omega arith) refl))

  pub distance_fits : distance_bits w at p < h + h
  unfolding distance_bits
  distance_fits =
      by_leb at p
      (λ y. rw (le-leb at p y) (omega arith))
      (λ y. rw (lt-leb at p y, f) (omega arith))
