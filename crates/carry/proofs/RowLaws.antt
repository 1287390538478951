-- Rows of type codes beside each other, and cases in front of others. Assumes nothing.
use mathlib.Core.Path.{◌≡◌, refl, ap, sym, ◌∙◌}
use mathlib.Core.List.{List, [], ◌∷◌, ◌++◌}
use Prim.Native.Nat.{ℕ, zero, suc, ◌+◌}
use native.Mathlib.Omega.{arith}
use lib.ListN.{drop, get_or}
use lib.Seq.{get_or-drop}
use borrow.Author.Tests.{eq-eqb, ne_eqb}
use Rattle.lists.specs.Choice.{pick}
use Rattle.lists.proofs.Tests.{by_eqb}
use Rattle.answers.specs.Outcome.{Outcome}
use Rattle.answers.specs.Outcome.Outcome.{refused_with}
use Rattle.spec_sheet.specs.Types.{family_of}
use Rattle.spec_sheet.specs.Row.{sum_by, count_of}
use Rattle.spec_carry.specs.Cases.{Case, unless_case}
use Rattle.spec_carry.specs.Passes.{Carrying, operand_cases, operands_cases}
use Rattle.spec_carry.proofs.CaseLaws.{Passed}
use Rattle.spec_carry.proofs.CaseLaws.Passed.{none, one}
use Rattle.carry.specs.Ready.{ZerosBehind}

-- cases in front of others
pub unless_then : (cs ds : List Case) (rest : Outcome) → unless_case (cs ++ ds) rest ≡ unless_case cs (unless_case ds rest)
unfolding unless_case
unless_then [] ds rest = refl
unless_then (c ∷ cs) ds rest = ap (λ (o : Outcome). pick c.holds (refused_with c.refusal) o) (unless_then cs ds rest)

pub passed_both : (cs ds : List Case) → Passed cs → Passed ds → Passed (cs ++ ds)
passed_both [] ds none q = q
passed_both (c ∷ cs) ds (one e p) q = one e (passed_both cs ds p q)

-- a row that counts no operand has zeros only, and such a row counts none
count_none : (row : List ℕ) → count_of row ≡ 0 → (k : ℕ) → get_or row k 0 ≡ 0
unfolding sum_by
count_none [] e k = refl
count_none (c ∷ cs) e k =
    by_eqb c 0
    (λ z. go k z (count_none cs (omega (arith, rw (eq-eqb c 0 z) at e))))
    (λ n. absurd (let q : 1 + count_of cs ≡ 0 = rw (ne_eqb c 0 n) at e in omega (arith, q)))
  where
    go : (k : ℕ) → c ≡ 0 → ((k : ℕ) → get_or cs k 0 ≡ 0) → get_or (c ∷ cs) k 0 ≡ 0
    go zero z f = z
    go (suc k) z f = f k

zeros_count : (row : List ℕ) → ((k : ℕ) → get_or row k 0 ≡ 0) → count_of row ≡ 0
unfolding sum_by
zeros_count [] f = refl
zeros_count (c ∷ cs) f = rw (eq-eqb c 0 (f 0)) (omega (arith, zeros_count cs (λ k. f (suc k))))

-- rows of as many operands end at one place
pub same_end : (row new : List ℕ) → ZerosBehind row → ZerosBehind new → count_of row ≡ count_of new → (j : ℕ) → get_or row j 0 ≡ 0 → get_or new j 0 ≡ 0
unfolding sum_by
same_end [] new z y e j h = count_none new (sym e) j
same_end (c ∷ cs) [] z y e j h = refl
same_end (c ∷ cs) (d ∷ ds) z y e j h =
    by_eqb c 0
    (λ a. count_none (d ∷ ds) (sym e ∙ zeros_count (c ∷ cs) (λ k. z 0 k (omega arith) a)) j)
    (λ a. by_eqb d 0 (λ b. y 0 j (omega arith) b)
    (λ b. go j a h
    (same_end cs ds (λ m k l. z (suc m) (suc k) (omega arith)) (λ m k l. y (suc m) (suc k) (omega arith)) (omega (arith, rw (ne_eqb c 0 a, ne_eqb d 0 b) at e)))))
  where
    go : (j : ℕ) → (c ≡ 0 → ⊥) → get_or (c ∷ cs) j 0 ≡ 0 → ((j : ℕ) → get_or cs j 0 ≡ 0 → get_or ds j 0 ≡ 0) → get_or (d ∷ ds) j 0 ≡ 0
    go zero a h f = absurd (a h)
    go (suc j) a h f = f j h

-- where neither sheet has an operand, no case holds
module _ (x : Carrying) (i at : ℕ) where
  none_passed : (q bits : ℕ) → Passed (operand_cases x i at q 0 0 bits)
  unfolding operand_cases family_of
  none_passed q bits = one refl (one refl (one refl (one refl (one refl (one refl none)))))

  pub zeros_passed : (q : ℕ) (row new ps : List ℕ) → ((k : ℕ) → get_or row k 0 ≡ 0) → ((k : ℕ) → get_or new k 0 ≡ 0) → Passed (operands_cases x i at q row new ps)
  unfolding operands_cases
  zeros_passed q [] new ps f g = none
  zeros_passed q (c ∷ cs) new ps f g =
      passed_both (operand_cases x i at q c (get_or new 0 0) (get_or ps 1 0)) _
      (rw (f 0, g 0) (none_passed q (get_or ps 1 0)))
      (zeros_passed (suc q) cs (drop 1 new) (drop 2 ps) (λ k. f (suc k)) (λ k. get_or-drop 1 new k 0 ∙ g (1 + k)))
