-- What a canonical record is encoded to. Assumes nothing.
use mathlib.Core.Path.{◌≡◌, refl, ap, sym, ◌∙◌}
use mathlib.Core.Bool.{true}
use mathlib.Core.List.{List, [], ◌∷◌, ◌++◌}
use Prim.Native.Nat.{ℕ, zero, suc, ◌+◌, ◌-◌, ◌*◌, ◌^◌, ◌≤◌, ◌<◌}
use native.Mathlib.Nat.{suc-add}
use native.Mathlib.Omega.{arith}
use lib.Dec.{eqb, leb, ltb}
use lib.ListN.{length, take, drop, get_or, replicate, length-drop, take-append-drop}
use lib.Seq.{drop-drop, length-take-le}
use borrow.Author.Tests.{eq-eqb, ne_eqb, eqb-true, leb-true, ltb-true, le-leb}
use Rattle.lists.specs.Choice.{pick, both}
use Rattle.lists.specs.Scan.{all}
use Rattle.lists.proofs.Tests.{by_test, by_eqb, both_left, both_right, both_yes}
use Rattle.spec_numbers.specs.LittleEndian.{le_bytes}
use Rattle.spec_sheet.specs.Types.{width_of, kind_of}
use Rattle.spec_sheet.specs.Row.{one_for, count_of}
use Rattle.spec_body.specs.Encode.{good_pair, good_pairs, good_shape, prepend_bytes, encode_operands, with_operands, Encoded, append_to, encode_record}
use Rattle.spec_body.specs.Encode.Operands.{bytes}
use Rattle.spec_body.proofs.OperandLaws.{typed_pair, kept}
use Rattle.spec_body.proofs.EncodeLaws.{operands_more, operands_none, operands_end, record_counted}
use Rattle.encode.specs.Canonical.{in_order, canonical_count, canonical_pair, canonical_pairs, canonical_bytes, all_zero, canonical_record}

-- a code counts where it is one
one_zero : (c : ℕ) → one_for c ≡ 0 → c ≡ 0
one_zero c e = by_eqb c 0 (λ q. q) (λ q. absurd (let z : one_for c ≡ 1 = rw (ne_eqb c 0 q) in omega arith))

one_some : (c : ℕ) → (c ≡ 0 → ⊥) → one_for c ≡ 1
one_some c q = rw (ne_eqb c 0 q)

-- the first code of a row in order, and those behind it
module _ (c : ℕ) (cs : List ℕ) (count : ℕ) (e : in_order (c ∷ cs) count ≡ true) where
  same_use : one_for c ≡ one_for count
  unfolding in_order
  same_use = eqb-true _ _ (both_left _ _ e)

  order_behind : in_order cs (count - 1) ≡ true
  unfolding in_order
  order_behind = both_right (eqb (one_for c) (one_for count)) _ e

  some_code : (count ≡ 0 → ⊥) → 0 < c
  some_code q = by_eqb c 0 (λ z. absurd (let x : one_for c ≡ 0 = rw z in omega (arith, same_use, one_some count q))) (λ z. omega (arith, z))

  no_code : count ≡ 0 → c ≡ 0
  no_code q = one_zero c (same_use ∙ rw q)

-- a row in order, in two parts
front_order : (f z : List ℕ) (count : ℕ) → in_order (f ++ z) count ≡ true → in_order f count ≡ true
unfolding in_order
front_order [] z count e = refl
front_order (c ∷ f) z count e = both_yes _ _ (eq-eqb (one_for c) (one_for count) (same_use c (f ++ z) count e)) (front_order f z (count - 1) (order_behind c (f ++ z) count e))

back_order : (f z : List ℕ) (count : ℕ) → in_order (f ++ z) count ≡ true → count ≤ length f → in_order z 0 ≡ true
back_order [] z count e h = let q : count ≡ 0 = omega arith in rw q at e
back_order (c ∷ f) z count e h = back_order f z (count - 1) (order_behind c (f ++ z) count e) (omega arith)

no_codes : (z : List ℕ) → in_order z 0 ≡ true → z ≡ replicate (length z) 0
no_codes [] e = refl
no_codes (c ∷ z) e = rw (no_code c z 0 e refl, ← (no_codes z (order_behind c z 0 e)))

-- what a canonical pair is
module _ (c kind bits : ℕ) (e : canonical_pair c kind bits ≡ true) where
  is_type : c ≤ 12
  is_type = leb-true c 12 (both_left _ _ e)

  typed : both (eqb kind (kind_of c)) (ltb bits (256 ^ width_of c)) ≡ true
  typed = both_right (leb c 12) _ e

  same_kind : kind ≡ kind_of c
  same_kind = eqb-true _ _ (both_left _ _ typed)

  fits : bits < 256 ^ width_of c
  fits = ltb-true _ _ (both_right (eqb kind (kind_of c)) _ typed)

-- it has a good shape
good_slot : (c : ℕ) (cs : List ℕ) (count kind bits : ℕ) → in_order (c ∷ cs) count ≡ true → canonical_pair c kind bits ≡ true → pick (eqb count 0) (both (eqb kind 0) (eqb bits 0)) (good_pair kind bits) ≡ true
unfolding kind_of width_of
good_slot c cs count kind bits o e =
    by_eqb count 0
    (λ q. let z = no_code c cs count o q in
    let k : kind ≡ 0 = same_kind c kind bits e ∙ rw z in
    let b : bits < 1 = rw z at (fits c kind bits e) in
    let n : bits ≡ 0 = omega arith in
    rw (q, k, n))
    (λ q. rw (ne_eqb count 0 q, same_kind c kind bits e) (typed_pair c (some_code c cs count o q) (is_type c kind bits e) bits (fits c kind bits e)))

-- zeros: as a list, and their shape
all_zero_lem : (s : List ℕ) → all_zero s ≡ true → s ≡ replicate (length s) 0
unfolding all
all_zero_lem [] e = refl
all_zero_lem (n ∷ s) e = let z : n ≡ 0 = eqb-true n 0 (both_left _ _ e) in rw (z, ← (all_zero_lem s (both_right (eqb n 0) _ e)))

zeros_good : (m : ℕ) → good_pairs m 0 (replicate (2 * m) 0) ≡ true
unfolding good_pairs
zeros_good zero = refl
zeros_good (suc m) = let e : 2 * suc m ≡ suc (suc (2 * m)) = omega arith in rw e (zeros_good m)

-- the pairs of codes f, behind which there are m zeros
pairs_good : (m : ℕ) (f : List ℕ) (count : ℕ) (ws : List ℕ) → in_order f count ≡ true → canonical_pairs f ws ≡ true → count ≤ length f → drop (2 * length f) ws ≡ replicate (2 * m) 0 → good_pairs (length f + m) count ws ≡ true
unfolding canonical_pairs good_pairs
pairs_good m [] count ws o e h z =
    let n : count ≡ 0 = omega arith in
    let k : 0 + m ≡ m = omega arith in
    rw (n, k, z) (zeros_good m)
pairs_good m (c ∷ cs) count ws o e h z =
    let g = good_slot c cs count (get_or ws 0 0) (get_or ws 1 0) o (both_left _ _ e) in
    let k : 2 + 2 * length cs ≡ 2 * suc (length cs) = omega arith in
    let d : drop (2 * length cs) (drop 2 ws) ≡ replicate (2 * m) 0 = drop-drop (2 * length cs) 2 ws ∙ (rw k z) in
    let b = both_right (canonical_pair c (get_or ws 0 0) (get_or ws 1 0)) _ e in
    rw (suc-add (length cs) m) (both_yes _ _ g (pairs_good m cs (count - 1) (drop 2 ws) (order_behind c cs count o) b (omega arith) d))

-- behind the last code there are no bytes
no_bytes : (f ws : List ℕ) → in_order f 0 ≡ true → canonical_bytes f ws ≡ []
unfolding canonical_bytes width_of le_bytes
no_bytes [] ws o = refl
no_bytes (c ∷ cs) ws o = rw (no_code c cs 0 o refl) (no_bytes cs (drop 2 ws) (order_behind c cs 0 o))

pairs_bytes : (m : ℕ) (f : List ℕ) (count : ℕ) (ws : List ℕ) (n : ℕ) → in_order f count ≡ true → canonical_pairs f ws ≡ true → encode_operands (f ++ replicate m 0) ws n ≡ bytes (canonical_bytes f ws)
unfolding canonical_pairs canonical_bytes prepend_bytes
pairs_bytes m [] count ws n o e = operands_none m ws n
pairs_bytes m (c ∷ cs) count ws n o e =
    let p : canonical_pair c (get_or ws 0 0) (get_or ws 1 0) ≡ true = both_left _ _ e in
    by_eqb count 0
    (λ q. let b : canonical_bytes (c ∷ cs) ws ≡ [] = no_bytes (c ∷ cs) ws (rw q at o) in
    rw (b, no_code c cs count o q) (operands_end (cs ++ replicate m 0) ws n))
    (λ q. let l = some_code c cs count o q in
    let k = kept c l (is_type c _ _ p) (get_or ws 1 0) (fits c _ _ p) in
    operands_more (cs ++ replicate m 0) ws n c (get_or ws 1 0) l (rw (same_kind c _ _ p) k)
    ∙ rw (pairs_bytes m cs (count - 1) (drop 2 ws) (n + 1) (order_behind c cs count o) (both_right (canonical_pair c (get_or ws 0 0) (get_or ws 1 0)) _ e)))

-- a count of four or fewer is that of a row in order
module _ (row : List ℕ) (count : ℕ) (e : count ≡ canonical_count row) (h : count ≤ 4) where
  counts : (both (leb (count_of row) 4) (in_order row (count_of row)) ≡ true) × (count ≡ count_of row)
  unfolding canonical_count
  counts =
      let t = both (leb (count_of row) 4) (in_order row (count_of row)) in
      by_test t (λ q. (q, e ∙ rw q)) (λ q. absurd (let z : count ≡ 9 = e ∙ rw q in omega arith))

  count_is : count ≡ count_of row
  count_is = counts.1

  count_order : in_order row count ≡ true
  count_order = rw count_is (both_right (leb (count_of row) 4) _ counts.0)

-- a canonical record, under a row of eight types
module _ (types : List (List ℕ)) (last i : ℕ) (r : List ℕ) (rest : Encoded) (e : canonical_record types last r ≡ true) (h : length (get_or types (get_or r 1 0) []) ≡ 8) (n : length r ≡ 20) where
  abbrev row : List ℕ
  row = get_or types (get_or r 1 0) []

  abbrev front : List ℕ
  front = take 4 row

  known : leb (get_or r 1 0) last ≡ true
  unfolding canonical_record
  known = both_left _ _ e

  counted : both (leb (get_or r 3 0) 4) (both (eqb (get_or r 3 0) (canonical_count row)) (both (all_zero (drop 12 r)) (canonical_pairs front (drop 4 r)))) ≡ true
  unfolding canonical_record
  counted = both_right (leb (get_or r 1 0) last) _ e

  few : get_or r 3 0 ≤ 4
  few = leb-true _ _ (both_left _ _ counted)

  agreed : both (eqb (get_or r 3 0) (canonical_count row)) (both (all_zero (drop 12 r)) (canonical_pairs front (drop 4 r))) ≡ true
  agreed = both_right (leb (get_or r 3 0) 4) _ counted

  same_count : get_or r 3 0 ≡ canonical_count row
  same_count = eqb-true _ _ (both_left _ _ agreed)

  bare : both (all_zero (drop 12 r)) (canonical_pairs front (drop 4 r)) ≡ true
  bare = both_right (eqb (get_or r 3 0) (canonical_count row)) _ agreed

  plain : canonical_pairs front (drop 4 r) ≡ true
  plain = both_right (all_zero (drop 12 r)) _ bare

  whole_order : in_order (front ++ drop 4 row) (get_or r 3 0) ≡ true
  whole_order = rw (take-append-drop 4 row) (count_order row (get_or r 3 0) same_count few)

  order : in_order front (get_or r 3 0) ≡ true
  order = front_order front (drop 4 row) (get_or r 3 0) whole_order

  is_row : row ≡ front ++ replicate 4 0
  is_row =
      let z = no_codes (drop 4 row) (back_order front (drop 4 row) (get_or r 3 0) whole_order (omega (arith, few, length-take-le 4 row (omega (arith, h))))) in
      let l : length (drop 4 row) ≡ 4 = omega (arith, h, length-drop 4 row) in
      sym (take-append-drop 4 row) ∙ ap (λ (s : List ℕ). front ++ s) (z ∙ ap (λ (k : ℕ). replicate k 0) l)

  front_length : length front ≡ 4
  front_length = length-take-le 4 row (omega (arith, h))

  no_pairs : drop (2 * length front) (drop 4 r) ≡ replicate (2 * 4) 0
  no_pairs =
      let z = all_zero_lem (drop 12 r) (both_left _ _ bare) in
      let l : length (drop 12 r) ≡ 8 = omega (arith, n, length-drop 12 r) in
      rw front_length (drop-drop 8 4 r ∙ (z ∙ ap (λ (k : ℕ). replicate k 0) l))

  shape : good_shape r ≡ true
  unfolding good_shape
  shape = both_yes _ _ (le-leb (get_or r 3 0) 8 (omega (arith, few))) (rw front_length at (pairs_good 4 front (get_or r 3 0) (drop 4 r) order plain (omega (arith, few, front_length)) no_pairs))

  pub canonical_encoded : encode_record types last i r rest ≡ append_to (get_or r 1 0 ∷ canonical_bytes front (drop 4 r)) rest
  unfolding with_operands
  canonical_encoded =
      record_counted types last i r rest shape (leb-true _ _ known) (count_is row (get_or r 3 0) same_count few)
      ∙ ap (λ o. with_operands (get_or r 1 0) i o rest) (ap (λ (s : List ℕ). encode_operands s (drop 4 r) 1) is_row ∙ pairs_bytes 4 front (get_or r 3 0) (drop 4 r) 1 order plain)
