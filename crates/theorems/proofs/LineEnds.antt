-- The lines of a text that is made of lines. Assumes nothing.
use mathlib.Core.Path.{◌≡◌, refl, ap, ◌∙◌}
use mathlib.Core.Bool.{true}
use mathlib.Core.List.{List, [], ◌∷◌, ◌++◌}
use Prim.Native.Nat.{ℕ}
use native.Mathlib.Omega.{arith}
use borrow.Author.Tests.{ne_eqb}
use Rattle.lists.specs.Choice.{within}
use Rattle.lists.specs.Scan.{all}
use Rattle.lists.proofs.Tests.{both_left, both_right, within_least}
use Rattle.spec_hasm.specs.Text.{onto, lines_of}

-- a byte that ends no line stands in front of the first line
pub lines_onto : (b : ℕ) (s : List ℕ) → (b ≡ 10 → ⊥) → (b ≡ 13 → ⊥) → lines_of (b ∷ s) ≡ onto b (lines_of s)
unfolding lines_of
lines_onto b s n m = rw (ne_eqb b 10 n, ne_eqb b 13 m)

-- a line of bytes 32 to 126 and its end
pub lines_more : (l rest : List ℕ) → all (within 32 126) l ≡ true → lines_of (l ++ 10 ∷ rest) ≡ l ∷ lines_of rest
unfolding lines_of all onto
lines_more [] rest e = refl
lines_more (b ∷ l) rest e =
    let h = within_least 32 126 b (both_left (within 32 126 b) (all (within 32 126) l) e) in
    lines_onto b (l ++ 10 ∷ rest) (λ z. omega (arith, h)) (λ z. omega (arith, h))
    ∙ ap (onto b) (lines_more l rest (both_right (within 32 126 b) (all (within 32 126) l) e))

-- an empty text has none
pub lines_none : lines_of [] ≡ []
unfolding lines_of
lines_none = refl
