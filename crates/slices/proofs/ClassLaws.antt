-- A class of bytes that is a test, by one computed look at all bytes. Assumes nothing.
use mathlib.Core.Path.{◌≡◌, refl, sym}
use mathlib.Core.Bool.{Bool, true, false}
use mathlib.Core.List.{List, [], ◌∷◌}
use Prim.Native.Nat.{ℕ, zero, suc, ◌<◌}
use native.Mathlib.Omega.{arith}
use Rattle.lists.specs.Choice.{both}
use Rattle.lists.specs.Scan.{all, Bytes}
use Rattle.lists.proofs.Tests.{both_left, both_right, by_eqb}
use Rattle.slices.specs.Class.{in_class}

-- two answers are the same
abbrev pub agree : Bool → Bool → Bool
agree true true = true
agree true false = false
agree false true = false
agree false false = true

agree_same : (a b : Bool) → agree a b ≡ true → a ≡ b
agree_same true true e = refl
agree_same true false e = sym e
agree_same false true e = e
agree_same false false e = refl

-- a class and a test agree on every byte below n
unfoldable pub agree_below : List ℕ → (ℕ → Bool) → ℕ → Bool
agree_below class p zero = true
agree_below class p (suc n) = both (agree (in_class class n) (p n)) (agree_below class p n)

agree_at : (class : List ℕ) (p : ℕ → Bool) (n b : ℕ) → agree_below class p n ≡ true → b < n → in_class class b ≡ p b
unfolding agree_below
agree_at class p zero b e h = absurd (omega arith)
agree_at class p (suc n) b e h =
    let l : agree (in_class class n) (p n) ≡ true = both_left _ (agree_below class p n) e in
    let r : agree_below class p n ≡ true = both_right (agree (in_class class n) (p n)) _ e in
    by_eqb b n (λ q. rw q (agree_same _ _ l)) (λ q. agree_at class p n b r (omega (arith, q)))

-- the class is the test
abbrev pub Is : List ℕ → (ℕ → Bool) → Type 0
Is class p = agree_below class p 256 ≡ true

-- so all bytes of a text are in the class where all pass the test
pub all_same : (class : List ℕ) (p : ℕ → Bool) → Is class p → (s : List ℕ) → Bytes s → all (in_class class) s ≡ all p s
unfolding all
all_same class p e [] h = refl
all_same class p e (b ∷ s) h = rw (agree_at class p 256 b e (h 0), all_same class p e s (λ i. h (suc i)))
