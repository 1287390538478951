-- What an opcode's plan holds. Assumes nothing.
use mathlib.Core.Path.{◌≡◌, refl, ap, sym, ◌∙◌}
use mathlib.Core.List.{List, [], ◌∷◌}
use Prim.Native.Nat.{ℕ, zero, suc, ◌+◌, ◌*◌, ◌≤◌, ◌<◌}
use native.Mathlib.Nat.{add-zero, add_assoc}
use native.Mathlib.Omega.{arith}
use lib.ListN.{length, take, drop, get_or, replicate, length-drop, take-append-drop}
use Rattle.spec_numbers.specs.LittleEndian.{le}
use Rattle.lists.proofs.Tests.{by_leb, by_eqb}
use Rattle.spec_sheet.specs.Types.{width_of, kind_of}
use Rattle.spec_sheet.specs.Row.{sum_by, total_width, length_of, count_of}
use Rattle.spec_sheet.proofs.TypeLaws.{width_some}
use Rattle.sheet.proofs.RowLaws.{sum_append, sum_more, sum_front, sum_all}
use Rattle.spec_body.specs.Record.{pairs}
use Rattle.decode.specs.Tables.{plan_from, PlanOf}
use Rattle.decode.proofs.TableLaws.{code_past}

pub plan_size : (n p : ℕ) (row : List ℕ) → length (plan_from n p row) ≡ 2 * length row + 2
unfolding plan_from
plan_size n p [] = refl
plan_size n p (c ∷ row) = omega (arith, plan_size n (p + width_of c) row)

-- where operand i starts, and behind the last one where it ends
pub plan_start : (n p : ℕ) (row : List ℕ) (i : ℕ) → i ≤ length row → get_or (plan_from n p row) (2 * i) 0 ≡ p + total_width (take i row)
unfolding plan_from sum_by
plan_start n p [] zero h = sym (add-zero p)
plan_start n p [] (suc i) h = absurd (omega arith)
plan_start n p (c ∷ row) zero h = sym (add-zero p)
plan_start n p (c ∷ row) (suc i) h =
    let e : 2 * suc i ≡ suc (suc (2 * i)) = omega arith in
    rw (e, ← add_assoc p (width_of c) (total_width (take i row))) (plan_start n (p + width_of c) row i (omega arith))

pub plan_kind : (n p : ℕ) (row : List ℕ) (i : ℕ) → i < length row → get_or (plan_from n p row) (suc (2 * i)) 0 ≡ kind_of (get_or row i 0)
unfolding plan_from
plan_kind n p [] i h = absurd (omega arith)
plan_kind n p (c ∷ row) zero h = refl
plan_kind n p (c ∷ row) (suc i) h =
    let e : 2 * suc i ≡ suc (suc (2 * i)) = omega arith in
    rw e (plan_kind n (p + width_of c) row i (omega arith))

pub plan_count : (n p : ℕ) (row : List ℕ) → get_or (plan_from n p row) (suc (2 * length row)) 0 ≡ n
unfolding plan_from
plan_count n p [] = refl
plan_count n p (c ∷ row) =
    let e : 2 * suc (length row) ≡ suc (suc (2 * length row)) = omega arith in
    rw e (plan_count n (p + width_of c) row)

-- operand j of the instruction at `at`: where it starts and ends, by the plan
pub plan_place : (row plan : List ℕ) (at start end j : ℕ) → j < 8 → PlanOf row plan → start ≡ at + get_or plan (2 * j) 0 → end ≡ at + get_or plan (2 * j + 2) 0
    → (start ≡ at + 1 + total_width (take j row)) × (end ≡ start + width_of (get_or row j 0))
plan_place row plan at start end j h e es ee =
    let f : 2 * j + 2 ≡ 2 * (j + 1) = omega arith in
    let a : get_or plan (2 * j) 0 ≡ 1 + total_width (take j row) = rw e.0 (plan_start (count_of row) 1 row j (omega (arith, e.1))) in
    let b : get_or plan (2 * j + 2) 0 ≡ 1 + total_width (take (j + 1) row) = rw (e.0, f) (plan_start (count_of row) 1 row (j + 1) (omega (arith, e.1))) in
    (omega arith, omega (arith, sum_more width_of row j (omega (arith, e.1))))

-- no operand starts behind the instruction
pub plan_within : (row plan : List ℕ) (j : ℕ) → j ≤ 8 → PlanOf row plan → get_or plan (2 * j) 0 ≤ length_of row
plan_within row plan j h e = rw e.0 (omega (arith, plan_start (count_of row) 1 row j (omega (arith, e.1)), sum_front width_of row j))

-- what stands behind the operands
pub plan_length : (row plan : List ℕ) → PlanOf row plan → get_or plan 16 0 ≡ length_of row
plan_length row plan e = rw e.0 (plan_start (count_of row) 1 row 8 (omega (arith, e.1)) ∙ (rw (sum_all width_of row 8 (omega (arith, e.1)))))

pub plan_counted : (row plan : List ℕ) → PlanOf row plan → get_or plan 17 0 ≡ count_of row
plan_counted row plan e = rw e.0 (rw e.1 at (plan_count (count_of row) 1 row))

-- a type without a width has no kind either, so that operands without a width are all 0
no_kind : (c : ℕ) → width_of c ≡ 0 → kind_of c ≡ 0
unfolding kind_of
no_kind c e =
    by_eqb c 0
    (λ q. rw q)
    (λ q.
    by_leb c 12
    (λ l. absurd (omega (arith, q, width_some c (omega (arith, q)) l)))
    (λ l. ap (λ (r : List ℕ). get_or r 1 0) (code_past c l)))

no_pairs : (row s : List ℕ) (p : ℕ) → total_width row ≡ 0 → pairs row s p ≡ replicate (2 * length row) 0
unfolding pairs sum_by le
no_pairs [] s p h = refl
no_pairs (c ∷ row) s p h =
    let w : width_of c ≡ 0 = omega arith in
    let e : 2 * suc (length row) ≡ suc (suc (2 * length row)) = omega arith in
    rw (e, w, no_kind c w, no_pairs row s (p + 0) (omega arith))

-- the pairs from operand i on
pairs_from : (row s : List ℕ) (p i : ℕ) → drop (2 * i) (pairs row s p) ≡ pairs (drop i row) s (p + total_width (take i row))
unfolding pairs sum_by
pairs_from row s p zero = rw (add-zero p)
pairs_from [] s p (suc i) =
    let e : 2 * suc i ≡ suc (suc (2 * i)) = omega arith in
    rw e
pairs_from (c ∷ row) s p (suc i) =
    let e : 2 * suc i ≡ suc (suc (2 * i)) = omega arith in
    rw (e, ← add_assoc p (width_of c) (total_width (take i row))) (pairs_from row s (p + width_of c) i)

-- where the fifth operand starts at the instruction's end, the last four pairs are 0
pub four_at_most : (row plan s : List ℕ) (p : ℕ) → PlanOf row plan → get_or plan 8 0 ≡ get_or plan 16 0 → drop 8 (pairs row s p) ≡ replicate 8 0
four_at_most row plan s p e q =
    let a : get_or plan 8 0 ≡ 1 + total_width (take 4 row) = rw e.0 (plan_start (count_of row) 1 row 4 (omega (arith, e.1))) in
    let b = sym (ap total_width (take-append-drop 4 row)) ∙ sum_append width_of (take 4 row) (drop 4 row) in
    let z : total_width (drop 4 row) ≡ 0 = omega (arith, a, b, plan_length row plan e) in
    let l : 2 * length (drop 4 row) ≡ 8 = simp length-drop (omega (arith, e.1)) in
    pairs_from row s p 4 ∙ (no_pairs (drop 4 row) s (p + total_width (take 4 row)) z ∙ rw l)
