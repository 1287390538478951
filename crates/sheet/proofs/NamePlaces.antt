-- The code of a type's name by its place among the names. Assumes nothing.
use mathlib.Core.Path.{◌≡◌, refl, ap, sym, ◌∙◌}
use mathlib.Core.Bool.{Bool, true, false, cond}
use mathlib.Core.List.{List, [], ◌∷◌}
use Prim.Native.Nat.{ℕ, suc, ◌+◌}
use native.Mathlib.Numerals.{add-one}
use native.Mathlib.Omega.{arith}
use borrow.Author.Tests.{eq-eqb, ne_eqb}
use Rattle.std.specs.Prelude.{Option, Some, None}
use Rattle.std.specs.List.{position, position_from}
use Rattle.std.proofs.lemmas.Iterator.Adapters.{position_from-zero}
use Rattle.lists.specs.Choice.{pick}
use Rattle.lists.specs.Scan.{same}
use Rattle.lists.proofs.Tests.{by_eqb}
use Rattle.spec_sheet.specs.Types.{type_names, type_code_in, type_code}
use Rattle.sheet.specs.TypeWords.{code_in}

-- the code at a place of the names
unfoldable pub code_at : Option ℕ → Option ℕ
code_at (Some i) = Some (i + 1)
code_at None = None

from_here : (k : ℕ) (word : List ℕ) (names : List (List ℕ)) → code_in (type_code_in names (suc k) word) ≡ code_at (position_from (same word) k names)
unfolding code_in type_code_in code_at
from_here k word [] = refl
from_here k word (name ∷ names) = by_head (same word name) (from_here (suc k) word names)
  where
    by_head : (b : Bool) → code_in (type_code_in names (suc (suc k)) word) ≡ code_at (position_from (same word) (suc k) names)
        → code_in (pick b (suc k) (type_code_in names (suc (suc k)) word)) ≡ code_at (cond b (Some k) (position_from (same word) (k + 1) names))
    by_head true e = let f : suc k ≡ k + 1 = omega arith in rw (ne_eqb (suc k) 0 (λ q. omega arith)) (ap Some f)
    by_head false e = rw add-one e

pub name_at_place : (word : List ℕ) → code_in (type_code word) ≡ code_at (position (same word) type_names)
unfolding type_code
name_at_place word = from_here 0 word type_names ∙ ap code_at (sym (position_from-zero (same word) type_names))

-- from a code that was found, or not, back to it
pub was_code : (n : ℕ) {code : ℕ} → code_in n ≡ Some code → (n ≡ code) × (code ≡ 0 → ⊥)
unfolding code_in
was_code n {code} e =
    by_eqb n 0
    (λ z. let q : None ≡ Some code = rw (eq-eqb n 0 z) at e in cc q)
    (λ z. let q : Some n ≡ Some code = rw (ne_eqb n 0 z) at e in let p : n ≡ code = cc q in (p, λ t. z (p ∙ t)))

pub was_no_code : (n : ℕ) → code_in n ≡ None → n ≡ 0
unfolding code_in
was_no_code n e = by_eqb n 0 (λ z. z) (λ z. let q : Some n ≡ None = rw (ne_eqb n 0 z) at e in cc q)
