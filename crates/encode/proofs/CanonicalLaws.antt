-- Records as decoding makes them: their table, and their pairs one after the other. Assumes nothing.
use mathlib.Core.Path.{◌≡◌, refl, ap, sym, ◌∙◌}
use mathlib.Core.Bool.{Bool, true, false, beq}
use mathlib.Core.List.{List, [], ◌∷◌}
use Prim.Native.Nat.{ℕ, ◌+◌, ◌-◌, ◌*◌, ◌^◌, ◌≤◌, ◌<◌}
use native.Mathlib.Numerals.{add-one}
use native.Mathlib.Omega.{arith}
use lib.Bits.{bit_or, or_add_and, and_le_l, and_le_r}
use lib.Dec.{eqb, leb, ltb}
use lib.ListN.{length, set, take, drop, get_or, drop_of_length-le}
use lib.Seq.{drop-cons, get_or-take, get_or-set_same, get_or-set_other}
use borrow.Author.Tests.{eq-eqb, ne_eqb, eqb-true, lt-ltb, le-ltb, le-leb, lt-leb}
use Rattle.lists.specs.Choice.{pick, both}
use Rattle.lists.specs.Scan.{all}
use Rattle.lists.proofs.Parts.{part_at}
use Rattle.lists.proofs.Tests.{by_leb, by_eqb, both_no_right}
use Rattle.spec_sheet.specs.Types.{width_of, kind_of}
use Rattle.spec_sheet.specs.Row.{one_for}
use Rattle.spec_body.proofs.OperandLaws.{every}
use Rattle.encode.specs.RecordPlaces.{record_at, pairs_at}
use Rattle.encode.specs.Canonical.{code_table, in_order, canonical_count, canonical_pair, canonical_pairs, all_zero, canonical_record}
use Rattle.encode.proofs.ShapeLaws.{pair_word, next_pairs}

-- the largest bits of a type
table_most : (c : ℕ) → c ≤ 12 → get_or (get_or code_table 1 []) c 0 + 1 ≡ 256 ^ width_of c
unfolding width_of
table_most c h = eqb-true _ _ (every (λ n. eqb (get_or (get_or code_table 1 []) n 0 + 1) (256 ^ width_of n)) 0 13 refl c (omega arith) (omega arith))

table_fits : (c bits : ℕ) → c ≤ 12 → leb bits (get_or (get_or code_table 1 []) c 0) ≡ ltb bits (256 ^ width_of c)
table_fits c bits h =
    let m = get_or (get_or code_table 1 []) c 0 in
    by_leb bits m (λ l. le-leb bits m l ∙ sym (lt-ltb bits (256 ^ width_of c) (omega (arith, table_most c h))))
    (λ l. lt-leb bits m l ∙ sym (le-ltb bits (256 ^ width_of c) (omega (arith, table_most c h))))

-- the ways of one pair, by the table
module _ (t : List (List ℕ)) (e : t ≡ code_table) (code : ℕ) where
  pub width_at : get_or (get_or t 2 []) code 0 ≡ width_of code
  unfolding width_of
  width_at = rw e

  module _ (kind bits : ℕ) where
    pub no_type : 12 < code → canonical_pair code kind bits ≡ false
    no_type h = rw (lt-leb code 12 h)

    module _ (h : code ≤ 12) where
      kind_at : get_or (get_or t 0 []) code 0 ≡ kind_of code
      unfolding kind_of
      kind_at = rw e

      pub other_kind : (kind ≡ get_or (get_or t 0 []) code 0 → ⊥) → canonical_pair code kind bits ≡ false
      other_kind f = rw (le-leb code 12 h, ne_eqb kind (kind_of code) (λ q. f (q ∙ sym kind_at)))

      pub same_kind : kind ≡ get_or (get_or t 0 []) code 0 → canonical_pair code kind bits ≡ leb bits (get_or (get_or t 1 []) code 0)
      same_kind q = rw (le-leb code 12 h, eq-eqb kind (kind_of code) (q ∙ kind_at), e) (sym (table_fits code bits h))

-- whether a code is none and whether it is used are told apart by the numbers that stand for both
pub told_same : (none used : Bool) → beq none used ≡ true → ◌≡◌ {A = ℕ} (pick none 0 1) (pick used 1 0) → ⊥
told_same true true e f = let z : ◌≡◌ {A = ℕ} 0 1 = f in omega arith
told_same true false e f = let z : false ≡ true = e in cc z
told_same false true e f = let z : false ≡ true = e in cc z
told_same false false e f = let z : ◌≡◌ {A = ℕ} 1 0 = f in omega arith

pub told_other : (none used : Bool) → beq none used ≡ false → ◌≡◌ {A = ℕ} (pick none 0 1) (pick used 1 0)
told_other true true e = let z : true ≡ false = e in cc z
told_other true false e = refl
told_other false true e = refl
told_other false false e = let z : true ≡ false = e in cc z

-- code j is a type where j is below the count
pub used_one : (j count : ℕ) → pick (ltb j count) 1 0 ≡ one_for (count - j)
used_one j count =
    by_leb count j
    (λ l. rw (le-ltb j count l, eq-eqb (count - j) 0 (omega arith)))
    (λ l. rw (lt-ltb j count l, ne_eqb (count - j) 0 (λ e. omega arith)))

module _ (row : List ℕ) (count j : ℕ) (h : j < length row) where
  one_code : in_order (drop j row) (count - j) ≡ both (eqb (one_for (get_or row j 0)) (one_for (count - j))) (in_order (drop (j + 1) row) (count - (j + 1)))
  unfolding in_order
  one_code =
      let n : count - j - 1 ≡ count - (j + 1) = omega arith in
      rw (add-one j, drop-cons row j 0 h) (rw (n, add-one j))

  pub code_right : one_for (get_or row j 0) ≡ pick (ltb j count) 1 0 → in_order (drop j row) (count - j) ≡ in_order (drop (j + 1) row) (count - (j + 1))
  code_right e = one_code ∙ rw (eq-eqb (one_for (get_or row j 0)) (one_for (count - j)) (e ∙ used_one j count))

  pub code_wrong : (one_for (get_or row j 0) ≡ pick (ltb j count) 1 0 → ⊥) → in_order (drop j row) (count - j) ≡ false
  code_wrong f = one_code ∙ rw (ne_eqb (one_for (get_or row j 0)) (one_for (count - j)) (λ e. f (e ∙ sym (used_one j count))))

-- one row more was counted
pub count_more : (types : List (List ℕ)) (counts : List ℕ) (op v : ℕ) → op < length counts → v ≡ canonical_count (get_or types op []) → ((o : ℕ) → o < op → get_or counts o 0 ≡ canonical_count (get_or types o []))
    → (o : ℕ) → o < op + 1 → get_or (set counts op v) o 0 ≡ canonical_count (get_or types o [])
count_more types counts op v h e f o l =
    by_eqb o op (λ q. rw q (get_or-set_same counts op v 0 h ∙ e)) (λ q. get_or-set_other counts op o v 0 q ∙ f o (omega (arith, q)))

-- the first four codes of a row
pub four_code : (row : List ℕ) (j : ℕ) → j < 4 → get_or (take 4 row) j 0 ≡ get_or row j 0
four_code row j h = get_or-take 4 row j 0 h

module _ (f words : List ℕ) (at j p : ℕ) (e : p ≡ at + 4 + 2 * j) (h : j < 8) (l : j < length f) where
  one_canonical : canonical_pairs (drop j f) (drop (2 * j) (pairs_at words at)) ≡ both (canonical_pair (get_or f j 0) (get_or words p 0) (get_or words (p + 1) 0)) (canonical_pairs (drop (j + 1) f) (drop (2 * (j + 1)) (pairs_at words at)))
  unfolding canonical_pairs
  one_canonical =
      let z : p + 0 ≡ p = omega arith in
      let d : drop j f ≡ get_or f j 0 ∷ drop (j + 1) f = rw (add-one j) (drop-cons f j 0 l) in
      let k : get_or (drop (2 * j) (pairs_at words at)) 0 0 ≡ get_or words p 0 = pair_word words at j p e h 0 (omega arith) ∙ ap (λ (m : ℕ). get_or words m 0) z in
      rw (d, next_pairs j (pairs_at words at), k, pair_word words at j p e h 1 (omega arith))

  pub pair_canonical : canonical_pair (get_or f j 0) (get_or words p 0) (get_or words (p + 1) 0) ≡ true → canonical_pairs (drop j f) (drop (2 * j) (pairs_at words at)) ≡ canonical_pairs (drop (j + 1) f) (drop (2 * (j + 1)) (pairs_at words at))
  pair_canonical g = one_canonical ∙ rw g

  pub pair_other : canonical_pair (get_or f j 0) (get_or words p 0) (get_or words (p + 1) 0) ≡ false → canonical_pairs (drop j f) (drop (2 * j) (pairs_at words at)) ≡ false
  pair_other g = one_canonical ∙ rw g

-- zeros one after the other
module _ (s : List ℕ) (j : ℕ) (h : j < length s) where
  one_zero : all_zero (drop j s) ≡ both (eqb (get_or s j 0) 0) (all_zero (drop (j + 1) s))
  unfolding all
  one_zero = rw (add-one j, drop-cons s j 0 h)

-- two words are zeros where their bits together are none
or_zero : (a b : ℕ) → eqb (bit_or a b) 0 ≡ both (eqb a 0) (eqb b 0)
or_zero a b =
    let s = or_add_and a b in
    let l = and_le_l a b in
    let r = and_le_r a b in
    by_eqb a 0
    (λ x. by_eqb b 0 (λ y. eq-eqb (bit_or a b) 0 (omega arith) ∙ rw (x, y)) (λ y. ne_eqb (bit_or a b) 0 (λ z. omega (arith, y)) ∙ sym (both_no_right (eqb a 0) (eqb b 0) (ne_eqb b 0 y))))
    (λ x. ne_eqb (bit_or a b) 0 (λ z. omega (arith, x)) ∙ rw (ne_eqb a 0 x))

pub zero_met : (s : List ℕ) (met j : ℕ) → j < length s → both (eqb met 0) (all_zero (drop j s)) ≡ both (eqb (bit_or met (get_or s j 0)) 0) (all_zero (drop (j + 1) s))
zero_met s met j h = rw (one_zero s j h, or_zero met (get_or s j 0)) (go (eqb met 0))
  where
    go : (a : Bool) → both a (both (eqb (get_or s j 0) 0) (all_zero (drop (j + 1) s))) ≡ both (both a (eqb (get_or s j 0) 0)) (all_zero (drop (j + 1) s))
    go true = refl
    go false = refl

pub zero_ended : (s : List ℕ) (met j : ℕ) → length s ≤ j → both (eqb met 0) (all_zero (drop j s)) ≡ eqb met 0
unfolding all
zero_ended s met j h = rw (drop_of_length-le s h) (go (eqb met 0))
  where
    go : (a : Bool) → both a true ≡ a
    go true = refl
    go false = refl

-- a canonical record by its words
module _ (types : List (List ℕ)) (last : ℕ) (words : List ℕ) (at : ℕ) where
  abbrev row : List ℕ
  row = get_or types (get_or words (at + 1) 0) []

  pub by_words : canonical_record types last (record_at words at)
      ≡ both (leb (get_or words (at + 1) 0) last) (both (leb (get_or words (at + 3) 0) 4) (both (eqb (get_or words (at + 3) 0) (canonical_count row)) (both (all_zero (drop 12 (record_at words at))) (canonical_pairs (take 4 row) (pairs_at words at)))))
  unfolding canonical_record
  by_words = rw (part_at words at 20 1 0 (omega arith), part_at words at 20 3 0 (omega arith))
