-- The first table's texts, looked up one by one in the second. Assumes nothing.
use mathlib.Core.Path.{◌≡◌, refl}
use mathlib.Core.List.{List}
use Prim.Native.Nat.{ℕ, ◌+◌, ◌^◌, ◌≤◌, ◌<◌}
use native.Mathlib.Omega.{arith}
use Rattle.std.specs.Prelude.{IfSome}
use lib.ListN.{length}
use Rattle.lists.specs.Found.{Found}
use Rattle.lists.specs.Found.Found.{found, missing}
use Rattle.spec_strings.specs.Table.{text_of, lookup}
use Rattle.spec_strings.proofs.TableLaws.{lookup_there}
use Rattle.slices.specs.Answers.{found_of}
use Rattle.carry.specs.Ids.{id_mark, Translated}
use Rattle.carry.specs.Marks.{mark_of}
use Rattle.carry.proofs.Filling.{Filled}

-- an id that was found is one of the table's, and 1 more than it fits a word
pub id_fits : (text bytes ends : List ℕ) → length ends ≤ 65536 → IfSome (found_of (lookup text bytes ends)) (λ k. k + 1 < 2 ^ 32)
id_fits text bytes ends l = go (lookup text bytes ends) refl
  where
    go : (f : Found) → lookup text bytes ends ≡ f → IfSome (found_of f) (λ k. k + 1 < 2 ^ 32)
    go (found k) e = omega (arith, lookup_there text bytes ends k e)
    go missing e = tt

-- what stands for it
pub mark_is : (f : Found) → mark_of (found_of f) ≡ id_mark f
unfolding mark_of id_mark
mark_is (found k) = refl
mark_is missing = refl

-- the mark of an id
abbrev pub IdMade : List ℕ → List ℕ → List ℕ → List ℕ → ℕ → ℕ → Type 0
IdMade bytes₁ ends₁ bytes₂ ends₂ id mark = mark ≡ id_mark (lookup (text_of bytes₁ ends₁ id) bytes₂ ends₂)

-- one for each is all
pub all_made : (bytes₁ ends₁ bytes₂ ends₂ ids : List ℕ) (n : ℕ) → Filled 0 (IdMade bytes₁ ends₁ bytes₂ ends₂) (length ends₁) ids n → length ends₁ ≤ n → Translated bytes₁ ends₁ bytes₂ ends₂ ids
all_made bytes₁ ends₁ bytes₂ ends₂ ids n g h = record { many = g.many; each = λ id l. g.made id (omega arith) }
