-- Lists of a fixed length that are filled from the front. Assumes nothing.
use mathlib.Core.Path.{◌≡◌, ◌∙◌}
use mathlib.Core.List.{List}
use Prim.Native.Nat.{ℕ, ◌+◌, ◌<◌}
use native.Mathlib.Omega.{arith}
use lib.ListN.{length, get_or, set, length-set}
use lib.Seq.{get_or-set_same, get_or-set_other}
use Rattle.lists.proofs.Tests.{by_eqb}

-- the first n of as many as `size` elements are made, of which P says what they are
pub record Filled {A : Type 0} (d : A) (P : ℕ → A → Type 0) (size : ℕ) (xs : List A) (n : ℕ) : Type 0 where
  pub many : length xs ≡ size
  pub made : (k : ℕ) → k < n → P k (get_or xs k d)

module _ {A : Type 0} (d : A) (P : ℕ → A → Type 0) (size : ℕ) (xs : List A) where
  pub none_made : length xs ≡ size → Filled d P size xs 0
  none_made l = record { many = l; made = λ k h. absurd (omega arith) }

  pub one_more : (n : ℕ) (x : A) → Filled d P size xs n → n < size → P n x → Filled d P size (set xs n x) (n + 1)
  one_more n x g h p = record {
    many = length-set xs n x ∙ g.many;
    made = λ k l.
        by_eqb k n
        (λ q. rw (q, get_or-set_same xs n x d (omega (arith, g.many))) p)
        (λ q. rw (get_or-set_other xs n k x d q) (g.made k (omega (arith, q))));
  }
