-- Comparing bytes by four. Assumes nothing.
use mathlib.Core.Path.{◌≡◌, sym, ap, ◌∙◌}
use mathlib.Core.Bool.{true, false}
use mathlib.Core.List.{List}
use Prim.Native.Nat.{ℕ, ◌+◌, ◌-◌, ◌≤◌}
use native.Mathlib.Omega.{arith}
use lib.Dec.{eqb}
use lib.ListN.{length, drop, get_or}
use lib.Seq.{drop-drop}
use borrow.Author.Tests.{eq-eqb, ne_eqb}
use Rattle.lists.specs.Scan.{Bytes, same}
use Rattle.lists.proofs.Tests.{by_test, by_eqb}
use Rattle.lists.proofs.Scans.{same_refl, same_eq, same_go, same_end}
use Rattle.slices.specs.Words.{two_at, four_at}

-- other numbers are of other bytes
pub other_four : (s t : List ℕ) (i : ℕ) → (four_at s i ≡ four_at t i → ⊥) → same s t ≡ false
other_four s t i e = by_test (same s t) (λ y. absurd (e (ap (λ (l : List ℕ). four_at l i) (same_eq s t y)))) (λ n. n)

module _ (s t : List ℕ) (a : Bytes s) (b : Bytes t) (q : length s ≡ length t) where
  -- two equal numbers are of equal bytes
  same_two : (i : ℕ) → i + 2 ≤ length s → two_at s i ≡ two_at t i → same (drop i s) (drop i t) ≡ same (drop (i + 2) s) (drop (i + 2) t)
  same_two i l e =
      let x : get_or s i 0 ≡ get_or t i 0 = omega (arith, a i, b i) in
      let y : get_or s (i + 1) 0 ≡ get_or t (i + 1) 0 = omega (arith, a i, b i) in
      let k : i + 1 + 1 ≡ i + 2 = omega arith in
      same_go s t i (omega arith) (omega arith) x ∙ rw k at (same_go s t (i + 1) (omega arith) (omega arith) y)

  pub same_four : (i : ℕ) → i + 4 ≤ length s → four_at s i ≡ four_at t i → same (drop i s) (drop i t) ≡ same (drop (i + 4) s) (drop (i + 4) t)
  unfolding four_at
  same_four i l e =
      let x : two_at s i ≡ two_at t i = omega (arith, a i, b i, a (i + 1), b (i + 1)) in
      let y : two_at s (i + 2) ≡ two_at t (i + 2) = omega (arith, a i, b i, a (i + 1), b (i + 1)) in
      let k : i + 2 + 2 ≡ i + 4 = omega arith in
      same_two i (omega arith) x ∙ rw k at (same_two (i + 2) (omega arith) y)

  -- the last four, where all but some of them are known to be the same
  module _ (i last : ℕ) (l : last + 4 ≡ length s) (h : last ≤ i) (inv : same s t ≡ same (drop i s) (drop i t)) where
    last_same : four_at s last ≡ four_at t last → same s t ≡ true
    last_same e =
        let z : same (drop last s) (drop last t) ≡ true = same_four last (omega arith) e ∙ same_end s t (last + 4) (omega arith) (omega arith) in
        let k : last + (i - last) ≡ i = omega arith in
        let d : drop i s ≡ drop i t = rw (drop-drop (i - last) last s, drop-drop (i - last) last t, k) at (ap (drop (i - last)) (same_eq (drop last s) (drop last t) z)) in
        inv ∙ rw d (same_refl (drop i t))

    pub last_four : eqb (four_at s last) (four_at t last) ≡ same s t
    last_four =
        by_eqb (four_at s last) (four_at t last)
        (λ e. eq-eqb (four_at s last) (four_at t last) e ∙ sym (last_same e))
        (λ e. ne_eqb (four_at s last) (four_at t last) e ∙ sym (other_four s t last e))
