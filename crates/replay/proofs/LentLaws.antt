-- Laws of lent space and what is recorded of it. Assumes nothing.
use mathlib.Core.Path.{◌≡◌, refl, ap, ◌∙◌}
use mathlib.Core.Bool.{Bool, true, ◌&&◌}
use mathlib.Core.List.{List, [], ◌∷◌}
use Prim.Native.Nat.{ℕ, zero, suc}
use borrow.Author.Tests.{eq-eqb}
use lib.Dec.{eqb}
use lib.ListN.{length, drop, get_or, replicate}
use Rattle.lists.specs.Choice.{both}
use Rattle.lists.specs.Scan.{opens}
use Rattle.std.specs.List.{list_all}
use Rattle.lists.proofs.Links.{both_and}
use Rattle.replay.specs.Lent.{all_are, left_as, is_clear, are_clear}

-- lent bytes that open with the expected ones, of a result
pub left_done : (lent expected : List ℕ) (number : ℕ) → opens expected lent ≡ true → number ≡ 0 → all_are 0xA5 (drop (length expected) lent) ≡ left_as lent expected number
unfolding left_as
left_done lent expected number e n = rw (e, eq-eqb _ _ n)

-- whether every entry is zero, by the library's words
pub clear_list : (labels : List (List ℕ)) → are_clear labels ≡ list_all (λ e. eqb (get_or e 0 0) 0 && (eqb (get_or e 1 0) 0 && eqb (get_or e 2 0) 0)) labels
unfolding are_clear
clear_list [] = refl
clear_list (e ∷ es) =
    let words = both_and (eqb (get_or e 0 0) 0) (both (eqb (get_or e 1 0) 0) (eqb (get_or e 2 0) 0)) ∙ ap (λ x. eqb (get_or e 0 0) 0 && x) (both_and (eqb (get_or e 1 0) 0) (eqb (get_or e 2 0) 0)) in
    both_and (is_clear e) (are_clear es) ∙ rw (words, clear_list es)

-- cleared entries are zero
pub cleared_clear : (n : ℕ) → are_clear (replicate n (0 ∷ 0 ∷ 0 ∷ [])) ≡ true
unfolding are_clear
cleared_clear zero = refl
cleared_clear (suc n) = cleared_clear n
