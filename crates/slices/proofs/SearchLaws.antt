-- From the answer of a search back to what was found. Assumes nothing.
use mathlib.Core.Path.{◌≡◌, refl, ap, sym, ◌∙◌}
use mathlib.Core.Bool.{Bool, true, false, cond}
use mathlib.Core.List.{List, [], ◌∷◌}
use Prim.Native.Nat.{ℕ, suc, ◌+◌}
use native.Mathlib.Numerals.{add-one}
use Rattle.std.specs.List.{position, position_from}
use Rattle.std.proofs.lemmas.Iterator.Adapters.{position_from-zero}
use Rattle.lists.specs.Choice.{pick}
use Rattle.std.specs.Prelude.{Some, None}
use Rattle.lists.specs.Found.{Found}
use Rattle.lists.specs.Found.Found.{found, missing}
use Rattle.slices.specs.Answers.{found_of}

pub was_at : (x : Found) {k : ℕ} → found_of x ≡ Some k → x ≡ found k
was_at (found j) {k} e = let p : j ≡ k = cc in ap found p
was_at missing e = cc

pub was_missing : (x : Found) → found_of x ≡ None → x ≡ missing
was_missing (found j) e = cc
was_missing missing e = refl

-- a search from the front on answers what the library's `position` does
module _ {A : Type 0} (look : ℕ → List A → Found) (p : A → Bool) (none : (k : ℕ) → look k [] ≡ missing) (more : (k : ℕ) (x : A) (xs : List A) → look k (x ∷ xs) ≡ pick (p x) (found k) (look (suc k) xs)) where
  from_here : (k : ℕ) (xs : List A) → found_of (look k xs) ≡ position_from p k xs
  from_here k [] = rw none
  from_here k (x ∷ xs) = ap found_of (more k x xs) ∙ by_head (p x) (from_here (suc k) xs)
    where
      by_head : (b : Bool) → found_of (look (suc k) xs) ≡ position_from p (suc k) xs → found_of (pick b (found k) (look (suc k) xs)) ≡ cond b (Some k) (position_from p (k + 1) xs)
      by_head true e = refl
      by_head false e = rw add-one e

  pub look_position : (xs : List A) → found_of (look 0 xs) ≡ position p xs
  look_position xs = from_here 0 xs ∙ sym (position_from-zero p xs)
