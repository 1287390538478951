-- The loop over the operands of a jump. Assumes nothing.
use mathlib.Core.Path.{◌≡◌, refl, sym, ◌∙◌}
use mathlib.Core.List.{List, ◌++◌}
use Prim.Native.Nat.{ℕ, suc, ◌+◌, ◌≤◌, ◌<◌}
use native.Mathlib.Numerals.{add-one}
use native.Mathlib.Omega.{arith}
use lib.ListN.{length, take, drop, get_or, drop_of_length-le}
use lib.Seq.{drop-cons}
use Rattle.lists.specs.Scan.{part}
use Rattle.spec_numbers.specs.LittleEndian.{le}
use Rattle.spec_sheet.specs.Types.{width_of, kind_of}
use Rattle.spec_sheet.specs.Row.{sum_by, length_of, total_width}
use Rattle.spec_body.specs.Record.{pairs}
use Rattle.sheet.proofs.RowLaws.{sum_more, sum_all, sum_front}
use Rattle.spec_listing.specs.Labels.{targets}
use Rattle.list_labels.specs.Notes.{Notes, note_all}
use Rattle.list_labels.specs.InstructionNotes.{target_in}
use Rattle.list_labels.proofs.NoteLaws.{all_append, all_none, all_most}
use Rattle.list_labels.proofs.TargetLaws.{target_most, targets_first}

-- the targets of the operands from the i-th on, which stands at p, are left to note
abbrev pub left_from : List ℕ → List ℕ → ℕ → ℕ → ℕ → List ℕ
left_from row s at p i = targets at (drop i row) (pairs (drop i row) s p)

pub record Going (row s : List ℕ) (at : ℕ) (n₀ n : Notes) (p i : ℕ) : Type 0 where
  pub inside : i ≤ 8
  pub place : p ≡ at + 1 + total_width (take i row)
  pub same_flags : length n.flags ≡ length n₀.flags
  pub same_stored : length n.stored ≡ length n₀.stored
  pub few : n.near + n.far ≤ p
  pub left : note_all n₀ (targets at row (pairs row s (at + 1))) ≡ note_all n (left_from row s at p i)

pub start : (row s : List ℕ) (at : ℕ) (n : Notes) → n.near + n.far ≤ at + 1 → Going row s at n n (at + 1) 0
unfolding sum_by
start row s at n h = record { inside = omega arith; place = omega arith; same_flags = refl; same_stored = refl; few = h; left = refl }

module _ (row s : List ℕ) (at : ℕ) (n₀ n : Notes) (p i : ℕ) (g : Going row s at n₀ n p i) (w : length row ≡ 8) where
  -- an operand is inside its instruction
  pub operand_inside : i < 8 → p + width_of (get_or row i 0) ≤ at + length_of row
  operand_inside h = omega (arith, g.place, sum_more width_of row i (omega arith), sum_front width_of row (i + 1))

  first_left : i < 8 → left_from row s at p i ≡ target_in at (get_or row i 0) (le (part s p (width_of (get_or row i 0)))) ++ left_from row s at (p + width_of (get_or row i 0)) (i + 1)
  unfolding pairs
  first_left h =
      rw (drop-cons row i 0 (omega arith), add-one i)
      (targets_first at (get_or row i 0) (le (part s p (width_of (get_or row i 0)))) (kind_of (get_or row i 0)) (drop (suc i) row) (pairs (drop (suc i) row) s (p + width_of (get_or row i 0))))

  pub turn : (n' : Notes) (size : ℕ) → i < 8 → size ≡ width_of (get_or row i 0) → length n'.flags ≡ length n.flags → length n'.stored ≡ length n.stored
      → n' ≡ note_all n (target_in at (get_or row i 0) (le (part s p (width_of (get_or row i 0)))))
      → Going row s at n₀ n' (p + size) (i + 1)
  turn n' size h e k l q =
      let t = target_in at (get_or row i 0) (le (part s p (width_of (get_or row i 0)))) in
      let m : n'.near + n'.far ≤ n.near + n.far + length t = rw q (all_most n t) in
      record {
        inside = omega arith;
        place = omega (arith, g.place, e, sum_more width_of row i (omega arith));
        same_flags = k ∙ g.same_flags;
        same_stored = l ∙ g.same_stored;
        few = omega (arith, g.few, m, e, target_most at (get_or row i 0) (le (part s p (width_of (get_or row i 0)))));
        left = g.left ∙ (rw (first_left h, all_append n t (left_from row s at (p + width_of (get_or row i 0)) (i + 1)), e, q));
      }

  -- at the end all are noted
  module _ (h : 8 ≤ i) where
    pub all_noted : n ≡ note_all n₀ (targets at row (pairs row s (at + 1)))
    unfolding targets
    all_noted =
        let l : length row ≤ i = omega arith in
        sym (g.left ∙ rw (drop_of_length-le row l) (all_none n))

    pub all_few : n.near + n.far ≤ at + length_of row
    all_few =
        let l : length row ≤ i = omega arith in
        omega (arith, g.few, g.place, sum_all width_of row i l)
