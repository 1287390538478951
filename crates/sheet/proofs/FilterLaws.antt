-- Laws of the filter of names. Assumes nothing.
use mathlib.Core.Path.{◌≡◌, refl, ap, sym, ◌∙◌}
use mathlib.Core.Bool.{true, false}
use mathlib.Core.List.{List, [], ◌∷◌}
use Prim.Native.Nat.{ℕ, zero, suc, ◌+◌, ◌*◌, ◌/◌, ◌%◌, ◌^◌, ◌≤◌, ◌<◌, max}
use native.Mathlib.Omega.{arith}
use lib.Bits.{bit_or, or_step}
use lib.Pow.{shr-shr, shl-shr, shl_exact}
use native.Mathlib.Nat.{one-mul}
use borrow.Author.Tests.{eq-eqb, eqb-true, ltb-true}
use Rattle.lists.proofs.Tests.{by_eqb, by_leb, by_test, both_left, both_right, true_not_false}
use Rattle.lists.proofs.Scans.{same_eq}
use Rattle.lists.specs.Found.Found.{missing}
use Rattle.spec_sheet.specs.Sheet.{no_info_rows, has_name, find_name}
use Rattle.spec_sheet.proofs.NameLaws.{find_cons_next}
use lib.Dec.{ltb}
use lib.ListN.{length, take, get_or, set, replicate, length-set, length-take, length-replicate, get_or-replicate, get_or-eq_default}
use lib.Seq.{get_or-set_same, get_or-set_other, get_or-take, set_out}
use Rattle.lists.specs.Scan.{same}
use Rattle.sheet.specs.NameFilter.{name_hash, in_filter, with_hash, Filtered}
use Rattle.spec_sheet.specs.Line.{name_in}

-- a bit of two numbers joined
or_bit : (k a b : ℕ) → bit_or a b / 2 ^ k % 2 ≡ max (a / 2 ^ k % 2) (b / 2 ^ k % 2)
or_bit zero a b = omega (arith, or_step a b)
or_bit (suc k) a b =
    let e : bit_or a b / 2 ≡ bit_or (a / 2) (b / 2) = omega (arith, or_step a b) in
    rw (half (bit_or a b) k, half a k, half b k, e) (or_bit k (a / 2) (b / 2))
  where
    half : (n k : ℕ) → n / 2 ^ suc k ≡ n / 2 / 2 ^ k
    half n k = let e : suc k ≡ 1 + k = omega arith in rw e (sym (shr-shr n 1 k))

-- one bit, as a shift makes it
pub bit_is : (k : ℕ) → k < 64 → 1 * 2 ^ k % 2 ^ 64 ≡ 2 ^ k
bit_is k h = shl_exact {a = 1} 1 k 64 (omega arith) (omega arith) ∙ one-mul (2 ^ k)

-- the bit that is joined in
own_bit : (k a : ℕ) → bit_or a (2 ^ k) / 2 ^ k % 2 ≡ 1
own_bit k a =
    let e : 2 ^ k / 2 ^ k ≡ 1 = ap (λ (n : ℕ). n / 2 ^ k) (sym (one-mul (2 ^ k))) ∙ shl-shr 1 k in
    or_bit k a (2 ^ k) ∙ rw e (omega arith)

-- and those that were there
kept_bit : (k a b : ℕ) → a / 2 ^ k % 2 ≡ 1 → bit_or a b / 2 ^ k % 2 ≡ 1
kept_bit k a b e = or_bit k a b ∙ omega (arith, e)

-- a mark is set where it is set, and no other is lost
module _ (filter : List ℕ) (h : ℕ) where
  pub mark_here : h / 64 < length filter → in_filter (with_hash filter h) h ≡ true
  unfolding in_filter with_hash
  mark_here l = rw (get_or-set_same filter (h / 64) (bit_or (get_or filter (h / 64) 0) (2 ^ (h % 64))) 0 l) (eq-eqb _ 1 (own_bit (h % 64) (get_or filter (h / 64) 0)))

  pub mark_kept : (k : ℕ) → h / 64 < length filter → in_filter filter k ≡ true → in_filter (with_hash filter h) k ≡ true
  unfolding in_filter with_hash
  mark_kept k l e =
      by_eqb (k / 64) (h / 64)
      (λ q. rw (q, get_or-set_same filter (h / 64) (bit_or (get_or filter (h / 64) 0) (2 ^ (h % 64))) 0 l)
      (eq-eqb _ 1 (kept_bit (k % 64) (get_or filter (h / 64) 0) (2 ^ (h % 64)) (rw q at (eqb-true (get_or filter (k / 64) 0 / 2 ^ (k % 64) % 2) 1 e)))))
      (λ q. rw (get_or-set_other filter (h / 64) (k / 64) (bit_or (get_or filter (h / 64) 0) (2 ^ (h % 64))) 0 q) e)

-- no row of an empty table has a name
no_name : (k : ℕ) → get_or (get_or no_info_rows k []) 3 0 ≡ 0
no_name k =
    by_leb 256 k
    (λ l. let z : length no_info_rows ≤ k = rw length-replicate l in ap (λ (r : List ℕ). get_or r 3 0) (get_or-eq_default no_info_rows [] z))
    (λ l. ap (λ (r : List ℕ). get_or r 3 0) (get_or-replicate 256 k (replicate 4 0) [] l))

pub none_marked : (s filter : List ℕ) → length filter ≡ 256 → Filtered s filter no_info_rows
none_marked s filter e = record { size = e; set_for = λ k h. absurd (omega (arith, no_name k)) }

-- one row more, and its mark
module _ (s filter : List ℕ) (rows : List (List ℕ)) (h : ℕ) (small : h < 16384) (m : Filtered s filter rows) where
  inside : h / 64 < length filter
  inside = omega (arith, m.size)

  size_kept : length (with_hash filter h) ≡ 256
  unfolding with_hash
  size_kept = length-set filter (h / 64) _ ∙ m.size

  -- where the row lies behind the table nothing is stored
  kept : (k : ℕ) → 0 < get_or (get_or rows k []) 3 0 → in_filter (with_hash filter h) (name_hash (name_in s (get_or rows k []))) ≡ true
  kept k o = mark_kept filter h _ inside (m.set_for k o)

  added : (code : ℕ) (row : List ℕ) → h ≡ name_hash (name_in s row) → code < length rows → Filtered s (with_hash filter h) (set rows code row)
  added code row e i = record {
    size = size_kept;
    set_for = λ k.
        by_eqb k code
        (λ q. rw (q, get_or-set_same rows code row [] i, sym e) (λ o. mark_here filter h inside))
        (λ q. rw (get_or-set_other rows code k row [] q) (kept k));
  }

  pub marked_more : (filter' : List ℕ) (code : ℕ) (row name : List ℕ) → name ≡ name_in s row → h ≡ name_hash name → filter' ≡ with_hash filter h → Filtered s filter' (set rows code row)
  marked_more filter' code row name n e w =
      rw w (by_leb (length rows) code
      (λ i. rw (set_out rows code row i) record { size = size_kept; set_for = kept })
      (λ i. added code row (e ∙ ap name_hash n) i))

-- a name that no row has
none_named : (s name : List ℕ) (k : ℕ) (rows : List (List ℕ)) → ((i : ℕ) → has_name s name (get_or rows i []) ≡ false) → find_name s name k rows ≡ missing
unfolding find_name
none_named s name k [] f = refl
none_named s name k (row ∷ rows) f = find_cons_next s name k row rows (f 0) ∙ none_named s name (suc k) rows (λ i. f (suc i))

-- a name whose mark is not set is in no row
module _ (s filter : List ℕ) (rows : List (List ℕ)) (name : List ℕ) (h : ℕ) (m : Filtered s filter rows) (e : h ≡ name_hash name) (f : in_filter filter h ≡ false) where
  not_named : (i : ℕ) → has_name s name (get_or rows i []) ≡ false
  unfolding has_name
  not_named i = by_test _ (λ g. absurd (named g)) (λ g. g)
    where
      named : has_name s name (get_or rows i []) ≡ true → ⊥
      named g =
          let row = get_or rows i [] in
          let own = name_in s row in
          let n : own ≡ name = same_eq own name (both_right (ltb 0 (get_or row 3 0)) (same own name) g) in
          let w = m.set_for i (ltb-true 0 (get_or row 3 0) (both_left (ltb 0 (get_or row 3 0)) (same own name) g)) in
          true_not_false _ (rw (n, sym e) at w) f

  pub unmarked_new : (least : ℕ) → find_name s name 0 (take least rows) ≡ missing
  unfolding has_name
  unmarked_new least =
      none_named s name 0 (take least rows)
      (λ i. by_leb least i
      (λ l. let z : length (take least rows) ≤ i = rw length-take (omega arith) in ap (has_name s name) (get_or-eq_default (take least rows) [] z))
      (λ l. ap (has_name s name) (get_or-take least rows i [] l) ∙ not_named i))
