-- The loops that make a plan and that write operands by one. Assumes nothing.
use mathlib.Core.Path.{◌≡◌, refl, ap, sym, ◌∙◌}
use mathlib.Core.List.{List, [], append-nil}
use Prim.Native.Nat.{ℕ, suc, ◌+◌, ◌-◌, ◌*◌, ◌≤◌, ◌<◌}
use native.Mathlib.Numerals.{add-one}
use native.Mathlib.Omega.{arith}
use lib.ListN.{length, take, drop, get_or, set, replicate, length-drop, drop_of_length-le}
use lib.Seq.{paste, paste-zero, take_all, get_or-drop}
use Rattle.lists.specs.Scan.{part}
use Rattle.spec_numbers.specs.LittleEndian.{le}
use Rattle.spec_sheet.specs.Types.{width_of, kind_of}
use Rattle.spec_sheet.specs.Row.{sum_by, total_width, length_of, one_for, count_of}
use Rattle.spec_sheet.proofs.TypeLaws.{width_most}
use Rattle.sheet.proofs.RowLaws.{sum_more, sum_front, sum_all, one_most}
use Rattle.spec_body.specs.Record.{pairs}
use Rattle.spec_body.proofs.DecodeLaws.{length_pairs}
use Rattle.decode.specs.Tables.{plan_row, PlanOf}
use Rattle.decode.proofs.PairLaws.{pairs_kind, pairs_bits, two_more, rest_more}
use Rattle.decode.proofs.PlanLaws.{plan_size, plan_start, plan_kind, plan_count, plan_place, four_at_most}

-- i operands are planned, and the next one starts at `start`
pub record Planning (row d plan : List ℕ) (start count i : ℕ) : Type 0 where
  pub inside : i ≤ 8
  pub small : start ≤ 1 + 8 * i
  pub few : count ≤ i
  pub place : start ≡ 1 + total_width (take i row)
  pub number : count ≡ sum_by one_for (take i row)
  pub numbers : plan ≡ paste d 0 (plan_row row) (2 * i)

pub plan_begun : (row d : List ℕ) → Planning row d d 1 0 0
unfolding sum_by
plan_begun row d = record { inside = omega arith; small = omega arith; few = omega arith; place = refl; number = refl; numbers = paste-zero d 0 (plan_row row) }

module _ (row d : List ℕ) (hr : length row ≡ 8) (hd : length d ≡ 18) (plan : List ℕ) (start count i : ℕ) (g : Planning row d plan start count i) where
  eighteen : length (plan_row row) ≡ 18
  eighteen = omega (arith, plan_size (count_of row) 1 row)

  pub planned : (kind width one : ℕ) → i < 8 → kind ≡ kind_of (get_or row i 0) → width ≡ width_of (get_or row i 0) → one ≡ one_for (get_or row i 0)
      → Planning row d (set (set plan (2 * i) start) (2 * i + 1) kind) (start + width) (count + one) (i + 1)
  planned kind width one h ek ew eo =
      let e : 2 * (i + 1) ≡ 2 * i + 2 = omega arith in
      let l : i < length row = omega arith in
      record {
        inside = omega arith;
        small = omega (arith, g.small, ew, width_most (get_or row i 0));
        few = omega (arith, g.few, eo, one_most (get_or row i 0));
        place = omega (arith, g.place, ew, sum_more width_of row i l);
        number = omega (arith, g.number, eo, sum_more one_for row i l);
        numbers = rw e
            (two_more d plan (plan_row row) 0 (2 * i) (2 * i) start kind (omega arith) (omega (arith, eighteen)) (omega arith) g.numbers
            (g.place ∙ sym (plan_start (count_of row) 1 row i (omega arith)))
            (ek ∙ sym (plan_kind (count_of row) 1 row i l)));
      }

  pub plan_ended : 8 ≤ i → set (set plan 16 start) 17 count ≡ plan_row row
  plan_ended h =
      let q : i ≡ 8 = omega (arith, g.inside) in
      let s : start ≡ get_or (plan_row row) 16 0 = g.place ∙ (rw q (sym (plan_start (count_of row) 1 row 8 (omega arith)))) in
      let n : count ≡ count_of row = g.number ∙ (rw (q, sum_all one_for row 8 (omega arith))) in
      let w : plan ≡ paste d 0 (plan_row row) 16 = g.numbers ∙ rw q in
      let k : get_or (plan_row row) 17 0 ≡ count_of row = rw hr at (plan_count (count_of row) 1 row) in
      let f : drop 18 d ≡ [] = let z : length d ≤ 18 = omega arith in drop_of_length-le d z in
      two_more d plan (plan_row row) 0 16 16 start count (omega arith) (omega (arith, eighteen)) (omega arith) w s (n ∙ sym k)
      ∙ (rw (f, take_all 18 (plan_row row) (omega (arith, eighteen))) (append-nil (plan_row row)))

-- i of four operands are written, the first of them number `from`, by the plan of whatever row
abbrev pub Four : List ℕ → List ℕ → List ℕ → List ℕ → ℕ → ℕ → ℕ → ℕ → Type 0
Four plan s d out k at from i = (row : List ℕ) → PlanOf row plan → out ≡ paste d k (drop (2 * from) (pairs row s (at + 1))) (2 * i)

module _ (plan s d : List ℕ) (k at from : ℕ) where
  pub four_begun : Four plan s d d k at from 0
  four_begun row e = paste-zero d k (drop (2 * from) (pairs row s (at + 1)))

  module _ (hd : k + 8 ≤ length d) (hf : from ≤ 4) (out : List ℕ) (i start end kind : ℕ) (es : start ≡ at + get_or plan (2 * (from + i)) 0) (ee : end ≡ at + get_or plan (2 * (from + i) + 2) 0) where
    -- the operand that is read lies inside the text
    pub four_inside : (row : List ℕ) → i < 4 → PlanOf row plan → at + length_of row ≤ length s → 8 ≤ at
        → (start ≤ end) × (end ≤ length s) × (8 ≤ end) × (end ≤ start + 8)
    four_inside row h e l m =
        let j = from + i in
        let p = plan_place row plan at start end j (omega arith) e es ee in
        let w = width_most (get_or row j 0) in
        (omega (arith, p.1), omega (arith, p.0, p.1, sum_more width_of row j (omega (arith, e.1)), sum_front width_of row (j + 1)), omega (arith, p.0), omega (arith, p.1, w))

    pub four_more : i < 4 → kind ≡ get_or plan (2 * (from + i) + 1) 0 → Four plan s d out k at from i
        → Four plan s d (set (set out (k + 2 * i) kind) (k + 2 * i + 1) (le (part s start (end - start)))) k at from (i + 1)
    four_more h ek g row e =
        let j = from + i in
        let r = pairs row s (at + 1) in
        let p = plan_place row plan at start end j (omega arith) e es ee in
        let l : j < length row = omega (arith, e.1) in
        let a : 2 * (i + 1) ≡ 2 * i + 2 = omega arith in
        let b : 2 * from + 2 * i ≡ 2 * j = omega arith in
        let b' : 2 * from + suc (2 * i) ≡ suc (2 * j) = omega arith in
        let n : length (drop (2 * from) r) ≡ 16 - 2 * from = length-drop (2 * from) r ∙ omega (arith, e.1, length_pairs row s (at + 1)) in
        let w : end - start ≡ width_of (get_or row j 0) = omega (arith, p.1) in
        rw a
        (two_more d out (drop (2 * from) r) k (2 * i) (k + 2 * i) kind (le (part s start (end - start))) (omega arith) (omega (arith, n)) refl (g row e)
        (ek ∙ (rw (e.0, add-one (2 * j)) (plan_kind (count_of row) 1 row j l) ∙ (sym (pairs_kind row s (at + 1) j l) ∙ rw (get_or-drop (2 * from) r (2 * i) 0, b))))
        (rw (w, p.0) (sym (pairs_bits row s (at + 1) j l) ∙ rw (get_or-drop (2 * from) r (suc (2 * i)) 0, b'))))

-- the last four operands behind the first four
pub all_eight : (row s d : List ℕ) (k at : ℕ) → length row ≡ 8 → k + 16 ≤ length d
    → paste (paste d k (pairs row s (at + 1)) 8) (k + 8) (drop 8 (pairs row s (at + 1))) 8 ≡ paste d k (pairs row s (at + 1)) 16
all_eight row s d k at hr hd = rest_more d (pairs row s (at + 1)) k 8 8 (omega arith) (omega (arith, length_pairs row s (at + 1)))

-- or none behind them
pub first_four : (row plan s d : List ℕ) (k at : ℕ) → PlanOf row plan → k + 16 ≤ length d → get_or plan 8 0 ≡ get_or plan 16 0
    → paste (paste d k (pairs row s (at + 1)) 8) (k + 8) (replicate 8 0) 8 ≡ paste d k (pairs row s (at + 1)) 16
first_four row plan s d k at e hd q =
    ap (λ (z : List ℕ). paste (paste d k (pairs row s (at + 1)) 8) (k + 8) z 8) (sym (four_at_most row plan s (at + 1) e q)) ∙ all_eight row s d k at e.1 hd
