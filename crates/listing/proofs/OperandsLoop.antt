-- The loop over the operands of an instruction. Assumes nothing.
use mathlib.Core.Path.{◌≡◌, ap, sym, ◌∙◌}
use mathlib.Core.Bool.{Bool}
use mathlib.Core.List.{List, [], ◌∷◌, ◌++◌}
use Prim.Native.Nat.{ℕ, suc, ◌+◌, ◌≤◌, ◌<◌}
use native.Mathlib.Numerals.{add-one}
use native.Mathlib.Omega.{arith}
use lib.Dec.{eqb}
use lib.ListN.{length, drop, get_or, drop_of_length-le}
use lib.Seq.{drop-cons}
use borrow.Author.Tests.{eq-eqb, ne_eqb}
use Rattle.lists.specs.Choice.{pick}
use Rattle.lists.specs.Scan.{part}
use Rattle.lists.specs.Text.{text}
use Rattle.lists.specs.Write.{ByWords, top}
use Rattle.lists.proofs.Aheads.{◌and_words◌}
use Rattle.lists.proofs.LeftToWrite.{LeftAhead, left_all, left_ahead, left_done}
use Rattle.spec_numbers.specs.LittleEndian.{le}
use Rattle.spec_sheet.specs.Types.{width_of}
use Rattle.spec_sheet.specs.Row.{sum_by, length_of, total_width}
use Rattle.spec_body.specs.Record.{pairs}
use Rattle.spec_listing.specs.Operand.{operand_text, operand_texts}

-- one operand first, or none
module _ (texts : Bool) (bytes ends s : List ℕ) (at : ℕ) where
  first_operand : (before : List ℕ) (c : ℕ) (cs : List ℕ) (p : ℕ) → (c ≡ 0 → ⊥)
      → operand_texts texts bytes ends at before (c ∷ cs) (pairs (c ∷ cs) s p) ≡ before ++ operand_text texts bytes ends at c (le (part s p (width_of c))) ++ operand_texts texts bytes ends at (text ", ") cs (pairs cs s (p + width_of c))
  unfolding operand_texts pairs
  first_operand before c cs p n = rw (ne_eqb c 0 n, operand_texts)

  no_operand : (before : List ℕ) (c : ℕ) (cs : List ℕ) (p : ℕ) → c ≡ 0 → operand_texts texts bytes ends at before (c ∷ cs) (pairs (c ∷ cs) s p) ≡ []
  unfolding operand_texts pairs
  no_operand before c cs p e = rw (eq-eqb c 0 e, operand_texts)

-- operands up to i are written, and the bytes of the next start at p
pub record Going (texts : Bool) (bytes ends s row : List ℕ) (at : ℕ) (out₀ : List ℕ) (k : ℕ) (out : List ℕ) (n p i : ℕ) : Type 0 where
  pub few : i ≤ 8
  pub room : p + total_width (drop i row) ≤ length s
  pub left : LeftAhead 8 (operand_texts texts bytes ends at (text " ") row (pairs row s (at + 1))) out₀ k (operand_texts texts bytes ends at (pick (eqb i 0) (text " ") (text ", ")) (drop i row) (pairs (drop i row) s p)) out n

module _ {texts : Bool} {bytes ends s row : List ℕ} {at : ℕ} {out₀ : List ℕ} {k : ℕ} where
  pub start : length out₀ ≤ top → k ≤ top → at + length_of row ≤ length s → Going texts bytes ends s row at out₀ k out₀ k (at + 1) 0
  start h l r = record { few = omega arith; room = omega arith; left = left_all h l }

  module _ {out : List ℕ} {n p i : ℕ} (g : Going texts bytes ends s row at out₀ k out n p i) where
    -- the bytes of operand i are there
    pub operand_room : (w : ℕ) → i < length row → w ≡ width_of (get_or row i 0) → p + w + total_width (drop (i + 1) row) ≤ length s
    unfolding sum_by
    operand_room w h e =
        let d : total_width (drop i row) ≡ w + total_width (drop (i + 1) row) = rw (e, add-one i, drop-cons row i 0 h) in
        omega (arith, g.room)

    -- operand i and what stands before it are written
    pub turn : (code w bits : ℕ) {o₁ o₂ : List ℕ} {n₁ n₂ : ℕ} → i < 8 → length row ≡ 8 → code ≡ get_or row i 0 → (code ≡ 0 → ⊥) → w ≡ width_of code → bits ≡ le (part s p w)
        → ByWords out n (pick (eqb i 0) (text " ") (text ", ")) o₁ n₁ → ByWords o₁ n₁ (operand_text texts bytes ends at code bits) o₂ n₂
        → Going texts bytes ends s row at out₀ k o₂ n₂ (p + w) (i + 1)
    turn code w bits h l c z e q a b =
        let r : i < length row = omega arith in
        let u : w ≡ width_of (get_or row i 0) = e ∙ ap width_of c in
        let x : eqb (i + 1) 0 ≡ eqb 1 0 = ne_eqb (i + 1) 0 (λ y. omega (arith, y)) in
        record {
          few = omega arith;
          room = operand_room w r u;
          left = left_ahead g.left
              (rw (x, q, u, c, add-one i, drop-cons row i 0 r) (first_operand texts bytes ends s at _ (get_or row i 0) (drop (suc i) row) p (λ y. z (c ∙ y))))
              (a and_words b);
        }

    -- a code 0 ends the row
    pub stopped : (code : ℕ) → i < 8 → length row ≡ 8 → code ≡ get_or row i 0 → code ≡ 0 → ByWords out₀ k (operand_texts texts bytes ends at (text " ") row (pairs row s (at + 1))) out n
    stopped code h l c z =
        let r : i < length row = omega arith in
        left_done g.left (rw (drop-cons row i 0 r) (no_operand texts bytes ends s at _ (get_or row i 0) (drop (suc i) row) p (sym c ∙ z)))

    -- and so do eight
    pub ended : 8 ≤ i → length row ≡ 8 → ByWords out₀ k (operand_texts texts bytes ends at (text " ") row (pairs row s (at + 1))) out n
    unfolding operand_texts
    ended h l = let r : length row ≤ i = omega arith in left_done g.left (rw (drop_of_length-le row r))
