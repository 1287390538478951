-- Scans by the library's words, so that its methods `all`, `any`, `position`, `take_while`, `==` and `starts_with` answer them.
-- Assumes nothing.
use mathlib.Core.Path.{◌≡◌, refl, ap, ◌∙◌}
use mathlib.Core.Bool.{Bool, true, false, not, cond, ◌&&◌, ◌||◌}
use mathlib.Core.List.{List, [], ◌∷◌}
use Prim.Native.Nat.{ℕ, suc, ◌+◌}
use native.Mathlib.Omega.{arith}
use lib.Dec.{eqb}
use Rattle.std.specs.List.{list_all, list_any, prefix_len, position_or_len, starts_with}
use Rattle.std.specs.Cmp.Lexicographic.{pointwise}
use Rattle.lists.specs.Choice.{both}
use Rattle.lists.specs.Scan.{run, all, same, opens}

pub both_and : (a b : Bool) → both a b ≡ (a && b)
both_and true b = refl
both_and false b = refl

-- `s.iter().all(..)`
pub all_list : (p : ℕ → Bool) (s : List ℕ) → all p s ≡ list_all p s
unfolding all
all_list p [] = refl
all_list p (b ∷ s) = both_and (p b) (all p s) ∙ ap (λ x. p b && x) (all_list p s)

-- `!s.iter().any(..)`
pub all_none : (p : ℕ → Bool) (s : List ℕ) → all (λ b. not (p b)) s ≡ not (list_any p s)
unfolding all
all_none p [] = refl
all_none p (b ∷ s) = by_head (p b) (all_none p s)
  where
    by_head : (x : Bool) → all (λ c. not (p c)) s ≡ not (list_any p s) → both (not x) (all (λ c. not (p c)) s) ≡ not (x || list_any p s)
    by_head true e = refl
    by_head false e = e

-- `s.iter().take_while(..).count()`
pub run_prefix : (p : ℕ → Bool) (s : List ℕ) → run p s ≡ prefix_len p s
unfolding run
run_prefix p [] = refl
run_prefix p (b ∷ s) = by_head (p b) (run_prefix p s)
  where
    by_head : (x : Bool) → run p s ≡ prefix_len p s → elim x as (λ y. ℕ) [ true ↦ suc (run p s) | false ↦ 0 ] ≡ cond x (1 + prefix_len p s) 0
    by_head true e = omega (arith, e)
    by_head false e = refl

-- `s.iter().position(..).unwrap_or(s.len())`: how many stand in front of the first that passes
pub run_position : (p : ℕ → Bool) (s : List ℕ) → run (λ b. not (p b)) s ≡ position_or_len p s
run_position p s = run_prefix (λ b. not (p b)) s

-- `s == t`
pub same_pointwise : (s t : List ℕ) → same s t ≡ pointwise eqb s t
unfolding same
same_pointwise [] [] = refl
same_pointwise [] (b ∷ t) = refl
same_pointwise (a ∷ s) [] = refl
same_pointwise (a ∷ s) (b ∷ t) = both_and (eqb a b) (same s t) ∙ ap (λ x. eqb a b && x) (same_pointwise s t)

-- `s.starts_with(p)`
pub opens_starts : (p s : List ℕ) → opens p s ≡ starts_with eqb s p
unfolding opens
opens_starts [] s = refl
opens_starts (a ∷ p) [] = refl
opens_starts (a ∷ p) (b ∷ s) = both_and (eqb a b) (opens p s) ∙ ap (λ x. eqb a b && x) (opens_starts p s)
