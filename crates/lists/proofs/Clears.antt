-- A lent slice of any elements, cleared from its front. Assumes nothing.
use mathlib.Core.Path.{◌≡◌, refl, sym, ap, subst, ◌∙◌}
use mathlib.Core.List.{List, [], ◌∷◌, ◌++◌, append-nil}
use Prim.Native.Nat.{ℕ, zero, suc, ◌+◌, ◌<◌, ◌≤◌}
use native.Mathlib.Nat.{not-suc-le-zero, le_of_suc-le-suc}
use native.Mathlib.Numerals.{add-one}
use native.Mathlib.Omega.{arith}
use lib.ListN.{length, set, drop, replicate, length-set}
use lib.Seq.{drop-length}

fill_suc : {A : Type 0} (n : ℕ) (v : A) (d : List A) → n < length d → set (replicate n v ++ drop n d) n v ≡ replicate (suc n) v ++ drop (suc n) d
fill_suc n v [] l = absurd (not-suc-le-zero l)
fill_suc zero v (x ∷ d) l = refl
fill_suc {A} (suc n) v (x ∷ d) l = ap (λ (t : List A). v ∷ t) (fill_suc n v d (le_of_suc-le-suc l))

-- s is d with its first i elements set to v
abbrev pub Cleared : {A : Type 0} → A → List A → List A → ℕ → Type 0
Cleared v d s i = (length s ≡ length d) × (i ≤ length d) × (s ≡ replicate i v ++ drop i d)

module _ {A : Type 0} (v : A) (d s : List A) (i : ℕ) (w : Cleared v d s i) where
  pub clear_turn : i < length d → Cleared v d (set s i v) (i + 1)
  clear_turn h =
      let more : set (replicate i v ++ drop i d) i v ≡ replicate (i + 1) v ++ drop (i + 1) d = subst (λ (k : ℕ). set (replicate i v ++ drop i d) i v ≡ replicate k v ++ drop k d) (sym (add-one i)) (fill_suc i v d h) in
      (length-set s i v ∙ w.0, omega arith, rw w.2 more)

  pub clear_end : length s ≤ i → s ≡ replicate (length d) v
  clear_end h =
      let e : i ≡ length d = omega (arith, w.0, w.1) in
      w.2 ∙ rw (e, drop-length) (append-nil (replicate (length d) v))
