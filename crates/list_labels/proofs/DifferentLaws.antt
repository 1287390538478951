-- Laws of what is among a list, and of how many different numbers it holds. Assumes nothing.
use mathlib.Core.Path.{◌≡◌, refl, sym}
use mathlib.Core.Bool.{Bool, true, false}
use mathlib.Core.List.{List, [], ◌∷◌, ◌++◌}
use Prim.Native.Nat.{ℕ, suc, ◌≤◌}
use native.Mathlib.Omega.{arith}
use borrow.Author.Tests.{eq-eqb, ne_eqb}
use lib.Dec.{eqb}
use lib.ListN.{length}
use Rattle.lists.specs.Choice.{pick, either}
use Rattle.lists.proofs.Tests.{by_eqb}
use Rattle.spec_listing.specs.Labels.{among, different}

-- what is among one of two lists, or both
pub among_append : (x : ℕ) (a b : List ℕ) → among x (a ++ b) ≡ either (among x a) (among x b)
unfolding among
among_append x [] b = refl
among_append x (y ∷ a) b = rw (among_append x a b) (join (eqb x y) (among x a) (among x b))
  where
    join : (p q r : Bool) → either p (either q r) ≡ either (either p q) r
    join true q r = refl
    join false q r = refl

pub among_one : (x y : ℕ) → among x (y ∷ []) ≡ eqb x y
unfolding among
among_one x y = alone (eqb x y)
  where
    alone : (p : Bool) → either p false ≡ p
    alone true = refl
    alone false = refl

-- a list holds no more different numbers than numbers
pub different_most : (l : List ℕ) → different l ≤ length l
unfolding different
different_most [] = omega arith
different_most (x ∷ l) = go (among x l) (different_most l)
  where
    go : (p : Bool) → different l ≤ length l → pick p (different l) (suc (different l)) ≤ suc (length l)
    go true h = omega arith
    go false h = omega arith

-- one number more at the end: it counts where it was not there
pub different_more : (l : List ℕ) (x : ℕ) → different (l ++ (x ∷ [])) ≡ pick (among x l) (different l) (suc (different l))
unfolding different among
different_more [] x = refl
different_more (y ∷ l) x =
    rw (different_more l x, among_append y l (x ∷ []), among_one y x)
    (by_eqb x y
    (λ e. rw (sym e, eq-eqb x x refl) (was_there (among x l)))
    (λ n. rw (ne_eqb x y n, ne_eqb y x (λ e. n (sym e))) (was_other (among y l) (among x l))))
  where
    D : ℕ
    D = different l

    was_there : (p : Bool) → pick (either p true) (pick p D (suc D)) (suc (pick p D (suc D))) ≡ pick p D (suc D)
    was_there true = refl
    was_there false = refl

    was_other : (p q : Bool) → pick (either p false) (pick q D (suc D)) (suc (pick q D (suc D))) ≡ pick q (pick p D (suc D)) (suc (pick p D (suc D)))
    was_other true true = refl
    was_other true false = refl
    was_other false true = refl
    was_other false false = refl
