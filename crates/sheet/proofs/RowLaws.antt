-- Sums over a row of type codes. Assumes nothing.
use mathlib.Core.Path.{◌≡◌, ap, sym}
use mathlib.Core.List.{List, [], ◌∷◌, ◌++◌}
use Prim.Native.Nat.{ℕ, zero, suc, ◌+◌, ◌≤◌, ◌<◌}
use native.Mathlib.Nat.{zero-add}
use native.Mathlib.Numerals.{add-one}
use native.Mathlib.Omega.{arith}
use lib.ListN.{length, take, get_or}
use lib.Seq.{take-suc, take_all}
use lib.Dec.{eqb}
use Rattle.lists.proofs.Tests.{by_test}
use Rattle.spec_sheet.specs.Row.{sum_by, one_for}

pub sum_append : (g : ℕ → ℕ) (a b : List ℕ) → sum_by g (a ++ b) ≡ sum_by g a + sum_by g b
unfolding sum_by
sum_append g [] b = sym (zero-add (sum_by g b))
sum_append g (x ∷ a) b = omega (arith, sum_append g a b)

-- one element more
pub sum_more : (g : ℕ → ℕ) (row : List ℕ) (i : ℕ) → i < length row → sum_by g (take (i + 1) row) ≡ sum_by g (take i row) + g (get_or row i 0)
unfolding sum_by
sum_more g row i h = rw (add-one i, take-suc row i 0 h) (omega (arith, sum_append g (take i row) (get_or row i 0 ∷ [])))

pub sum_all : (g : ℕ → ℕ) (row : List ℕ) (n : ℕ) → length row ≤ n → sum_by g (take n row) ≡ sum_by g row
sum_all g row n h = ap (sum_by g) (take_all n row h)

-- a front is no more than the whole
pub sum_front : (g : ℕ → ℕ) (row : List ℕ) (i : ℕ) → sum_by g (take i row) ≤ sum_by g row
unfolding sum_by
sum_front g row zero = omega arith
sum_front g [] (suc i) = omega arith
sum_front g (x ∷ row) (suc i) = omega (arith, sum_front g row i)

-- a code counts at most once
pub one_most : (c : ℕ) → one_for c ≤ 1
one_most c = by_test (eqb c 0) (λ e. rw e (omega arith)) (λ e. rw e (omega arith))
