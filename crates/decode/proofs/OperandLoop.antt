-- The loop over an instruction's operands. Assumes nothing.
use mathlib.Core.Path.{◌≡◌, refl, ap, sym, ◌∙◌}
use mathlib.Core.List.{List}
use Prim.Native.Nat.{ℕ, ◌+◌, ◌*◌, ◌≤◌, ◌<◌}
use native.Mathlib.Omega.{arith}
use lib.ListN.{length, take, get_or, set}
use lib.Seq.{paste, paste-zero, length-paste}
use Rattle.lists.specs.Scan.{part}
use Rattle.spec_numbers.specs.LittleEndian.{le}
use Rattle.spec_sheet.specs.Types.{width_of, kind_of}
use Rattle.spec_sheet.specs.Row.{sum_by, total_width, length_of}
use Rattle.spec_body.specs.Record.{pairs}
use Rattle.spec_body.proofs.DecodeLaws.{length_pairs}
use Rattle.sheet.proofs.RowLaws.{sum_more, sum_front}
use Rattle.decode.proofs.PairLaws.{pairs_kind, pairs_bits, two_more}

-- i operands are written, and the next one is at p
pub record Going (row s d out : List ℕ) (k at p i : ℕ) : Type 0 where
  pub inside : i ≤ 8
  pub place : p ≡ at + 1 + total_width (take i row)
  pub words : out ≡ paste d k (pairs row s (at + 1)) (2 * i)

module _ (row s d : List ℕ) (k at : ℕ) where
  pub start : Going row s d d k at (at + 1) 0
  unfolding sum_by
  start = record { inside = omega arith; place = omega arith; words = paste-zero d k (pairs row s (at + 1)) }

  module _ (hr : length row ≡ 8) (hk : k + 16 ≤ length d) (out : List ℕ) (p i : ℕ) (g : Going row s d out k at p i) where
    -- all pairs have 16 words
    sixteen : length (pairs row s (at + 1)) ≡ 16
    sixteen = omega (arith, length_pairs row s (at + 1))

    pub kept_length : length out ≡ length d
    kept_length = rw g.words (length-paste d k (pairs row s (at + 1)) (2 * i) (omega (arith, g.inside)) (omega (arith, g.inside, sixteen)))

    -- the bytes of operand i are there
    pub operand_inside : at + length_of row ≤ length s → i < 8 → p + width_of (get_or row i 0) ≤ length s
    operand_inside h l = omega (arith, g.place, sum_more width_of row i (omega arith), sum_front width_of row (i + 1))

    pub turn : (kind bits width : ℕ) → i < 8 → kind ≡ kind_of (get_or row i 0) → bits ≡ le (part s p (width_of (get_or row i 0))) → width ≡ width_of (get_or row i 0)
        → Going row s d (set (set out (k + 2 * i) kind) (k + 2 * i + 1) bits) k at (p + width) (i + 1)
    turn kind bits width hi ek eb ew =
        let e : 2 * (i + 1) ≡ 2 * i + 2 = omega arith in
        let l : i < length row = omega arith in
        record {
          inside = omega arith;
          place = omega (arith, g.place, ew, sum_more width_of row i l);
          words = rw e
              (two_more d out (pairs row s (at + 1)) k (2 * i) (k + 2 * i) kind bits (omega arith) (omega (arith, sixteen)) refl g.words
              (ek ∙ sym (pairs_kind row s (at + 1) i l))
              (eb ∙ (ap (λ (x : ℕ). le (part s x (width_of (get_or row i 0)))) g.place ∙ sym (pairs_bits row s (at + 1) i l))));
        }

    pub ended : 8 ≤ i → out ≡ paste d k (pairs row s (at + 1)) 16
    ended h = let e : 2 * i ≡ 16 = omega (arith, g.inside) in rw (sym e) g.words
