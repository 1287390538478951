-- The place that an Addr leads to, by the map of places. Assumes nothing.
use mathlib.Core.Path.{◌≡◌, refl, ap, sym, ◌∙◌}
use mathlib.Core.Bool.{Bool, false}
use mathlib.Core.List.{List, [], ◌∷◌}
use Prim.Native.Nat.{ℕ, suc, ◌+◌, ◌-◌, ◌*◌, ◌^◌, ◌≤◌, ◌<◌}
use native.Mathlib.Omega.{arith}
use lib.Dec.{eqb}
use borrow.Author.Tests.{lt-ltb, le-ltb, eq-eqb, ne_eqb}
use Rattle.lists.specs.Found.Found.{missing}
use Rattle.lists.proofs.Tests.{by_leb, by_eqb}
use Rattle.spec_sheet.specs.Types.{width_of}
use Rattle.spec_carry.specs.Meaning.{reaches, first_place}
use Rattle.spec_carry.specs.Passes.{Carrying, old_target}
use Rattle.carry.specs.Places.{place_mark, Mapped}
use Rattle.carry.specs.NewBits.{target_mark}

-- a search by tests that agree
first_same : (p q : ℕ → Bool) → ((n : ℕ) → p n ≡ q n) → (k : ℕ) (xs : List ℕ) → first_place p k xs ≡ first_place q k xs
unfolding first_place
first_same p q e k [] = refl
first_same p q e k (x ∷ xs) = rw (e x, first_same p q e (suc k) xs)

first_none : (p : ℕ → Bool) → ((n : ℕ) → p n ≡ false) → (k : ℕ) (xs : List ℕ) → first_place p k xs ≡ missing
unfolding first_place
first_none p e k [] = refl
first_none p e k (x ∷ xs) = rw (e x) (first_none p e (suc k) xs)

-- numbers that differ by the same
eqb_shift : (a b p q m : ℕ) → a ≡ p + m → b ≡ q + m → eqb a b ≡ eqb p q
eqb_shift a b p q m e f =
    by_eqb p q
    (λ z. eq-eqb a b (omega arith) ∙ sym (eq-eqb p q z))
    (λ n. ne_eqb a b (λ z. n (omega arith)) ∙ sym (ne_eqb p q n))

-- what an Addr of w bytes reaches: the sum, or what it has past all the numbers of w bytes, or nothing
module _ (w at bits : ℕ) where
  reaches_on : bits < 2 ^ (8 * w - 1) → (place : ℕ) → reaches w at bits place ≡ eqb (at + bits) place
  unfolding reaches
  reaches_on l place = rw (lt-ltb bits (2 ^ (8 * w - 1)) l) (eqb_shift (at + bits) (place + 0) (at + bits) place 0 (omega arith) refl)

  module _ (h : 2 ^ (8 * w - 1) ≤ bits) where
    reaches_none : at + bits < 2 ^ (8 * w) → (place : ℕ) → reaches w at bits place ≡ false
    unfolding reaches
    reaches_none l place = rw (le-ltb bits (2 ^ (8 * w - 1)) h) (ne_eqb (at + bits) (place + 2 ^ (8 * w)) (λ e. omega arith))

    reaches_back : 2 ^ (8 * w) ≤ at + bits → (place : ℕ) → reaches w at bits place ≡ eqb (at + bits - 2 ^ (8 * w)) place
    unfolding reaches
    reaches_back l place =
        rw (le-ltb bits (2 ^ (8 * w - 1)) h)
        (eqb_shift (at + bits) (place + 2 ^ (8 * w)) (at + bits - 2 ^ (8 * w)) place (2 ^ (8 * w)) (omega arith) refl)

-- what stands for the target in the map
pub target_mark_lem : (x : Carrying) (map : List ℕ) (c at bits : ℕ) → Mapped x map → target_mark (width_of c) at bits map ≡ place_mark x.moved (old_target x at c bits)
unfolding place_mark
target_mark_lem x map c at bits m =
    let w = width_of c in
    by_leb (2 ^ (8 * w - 1)) bits
    (λ h. rw (le-ltb bits (2 ^ (8 * w - 1)) h)
    (by_leb (2 ^ (8 * w)) (at + bits)
    (λ l. rw (le-ltb (at + bits) (2 ^ (8 * w)) l)
    (m (at + bits - 2 ^ (8 * w)) ∙ ap (place_mark x.moved) (sym (first_same (reaches w at bits) (eqb (at + bits - 2 ^ (8 * w))) (reaches_back w at bits h l) 0 x.places))))
    (λ l. rw (lt-ltb (at + bits) (2 ^ (8 * w)) l) (sym (ap (place_mark x.moved) (first_none (reaches w at bits) (reaches_none w at bits h l) 0 x.places))))))
    (λ l. rw (lt-ltb bits (2 ^ (8 * w - 1)) l)
    (m (at + bits) ∙ ap (place_mark x.moved) (sym (first_same (reaches w at bits) (eqb (at + bits)) (reaches_on w at bits l) 0 x.places))))
