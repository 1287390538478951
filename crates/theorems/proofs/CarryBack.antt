-- The result of carrying round-trips through its listing where its texts are plain. Assumes nothing.
use mathlib.Core.Path.{◌≡◌, refl, ap, sym, ◌∙◌}
use mathlib.Core.Bool.{true}
use mathlib.Core.List.{List, [], ◌∷◌}
use Prim.Native.Nat.{ℕ, zero, suc, ◌+◌, ◌-◌, ◌≤◌, ◌<◌}
use native.Mathlib.Nat.{add-zero}
use native.Mathlib.Omega.{arith}
use lib.Dec.{eqb}
use lib.ListN.{length, get_or, drop}
use lib.Seq.{drop-drop, get_or-drop}
use borrow.Author.Tests.{eq-eqb, ne_eqb, lt-ltb, le-leb, lt-leb}
use Rattle.lists.specs.Choice.{pick}
use Rattle.lists.specs.Found.{Found}
use Rattle.lists.specs.Found.Found.{found}
use Rattle.lists.proofs.Tests.{by_test, by_leb, by_eqb, both_left, both_right, both_yes}
use Rattle.spec_numbers.specs.LittleEndian.{le, le_bytes}
use Rattle.spec_numbers.specs.TwosComplement.{wrap_add}
use Rattle.spec_numbers.proofs.ByteLaws.{le_le_bytes}
use Rattle.spec_numbers.proofs.SignedLaws.{extend_small, extend_large}
use Rattle.spec_sheet.specs.Types.{width_of, family_of}
use Rattle.spec_sheet.specs.Row.{length_of}
use Rattle.spec_sheet.proofs.TypeLaws.{by_address}
use Rattle.spec_strings.specs.Table.{lookup}
use Rattle.spec_strings.specs.Plain.{plain}
use Rattle.spec_strings.proofs.TableLaws.{lookup_there, lookup_equal}
use Rattle.spec_inputs.specs.Context.{has_text, text_at}
use Rattle.spec_body.specs.Record.{offset_of, opcode_of, pairs_of}
use Rattle.spec_carry.specs.Meaning.{reaches}
use Rattle.spec_carry.specs.Passes.{Carrying, or_zero, old_row, new_row, moved_from, new_id, old_target, new_place, operand_cases, operands_cases, first_pass, far_cases, second_pass, distance_bits, new_bits}
use Rattle.spec_carry.specs.PlainTexts.{plain_operands, plain_texts}
use Rattle.spec_carry.proofs.CaseLaws.{Passed, passed_left, passed_right, passed_head, passed_tail}
use Rattle.spec_carry.proofs.PlaceLaws.{first_inside}
use Rattle.spec_carry.proofs.ValueLaws.{Rising, Good, good_operand_lem, is_found, near_8, new_small, place_small, place_fits, string_read}
use Rattle.spec_carry.proofs.ResultLaws.{new_pairs, new_records}
use Rattle.spec_carry.proofs.MeaningLaws.{Within, Sound, first_operands_lem, first_rest, opcode_known, valid_name, second_left, second_right}
use Rattle.spec_listing.specs.Operand.{distance_of, target_of}
use Rattle.spec_listing.specs.Labels.{among}
use Rattle.theorems.specs.Premises.{answers, good_string, good_operand, good_operands, good_record, good_records}

among_at : (xs : List ℕ) (k y : ℕ) → k < length xs → y ≡ get_or xs k 0 → among y xs ≡ true
unfolding among
among_at [] k y h e = absurd (omega arith)
among_at (x ∷ xs) zero y h e = rw (eq-eqb y x e)
among_at (x ∷ xs) (suc k) y h e = by_test (eqb y x) (λ t. rw t) (λ t. rw t (among_at xs k y (omega arith) e))

-- the listed target of a distance that fits is its place
far_target : (at p : ℕ) → at ≤ 65536 → p ≤ 65536 → wrap_add at (distance_bits 4 at p) ≡ p
unfolding distance_bits
far_target at p h l = by_leb at p (λ y. rw (le-leb at p y) (omega arith)) (λ y. rw (lt-leb at p y) (omega arith))

near_target : (at p : ℕ) → at ≤ 65536 → p ≤ 65536 → at ≤ p + 128 → p < at + 128 → target_of at 9 (distance_bits 1 at p) ≡ p
unfolding target_of distance_of distance_bits
near_target at p h l a b =
    by_leb at p
    (λ y. let s : p - at < 128 = omega arith in rw (le-leb at p y, extend_small (p - at) s) (omega arith))
    (λ y. let s : 128 ≤ 256 - (at - p) = omega arith in let t : 256 - (at - p) < 256 = omega arith in rw (lt-leb at p y, extend_large (256 - (at - p)) s t) (omega arith))

module _ (x : Carrying) (at new c d bits : ℕ) (good : Good x at new c d bits) (rising : Rising x) (i : ℕ) (here : get_or x.moved i 0 ≡ new) where
  abbrev v : ℕ
  v = new_bits x at new c d bits

  string_back : family_of c ≡ 3 → plain (text_at x.into v) ≡ true → good_string x.into v ≡ true
  unfolding good_string answers new_bits or_zero
  string_back f p =
      is_found (new_id x bits) (good.known f) λ k e.
      let w : v ≡ k = rw (f, e) in
      let h : has_text x.into k ≡ true = lt-ltb k (length x.into.ends) (lookup_there (text_at x.from bits) x.into.bytes x.into.ends k e) in
      let q : lookup (text_at x.into k) x.into.bytes x.into.ends ≡ found k =
      ap (λ (t : List ℕ). lookup t x.into.bytes x.into.ends) (lookup_equal (text_at x.from bits) x.into.bytes x.into.ends k e) ∙ e in
      let p' : plain (text_at x.into k) ≡ true = rw w at p in
      rw (w, h, p', q, eq-eqb k k refl)

  target_is : (f : family_of c ≡ 4) → target_of new d (distance_bits (width_of d) new (new_place x at c bits)) ≡ new_place x at c bits
  target_is f =
      by_address (λ e. d ≡ e → target_of new e (distance_bits (width_of e) new (new_place x at c bits)) ≡ new_place x at c bits) d (sym good.family ∙ f)
      (λ e. let n = near_8 x at new c d bits good f rising i here e in
      unfold width_of in near_target new (new_place x at c bits) (new_small x at new c d bits good f rising i here) (place_small x at new c d bits good f rising i here) n.0 n.1)
      (λ e. unfold width_of target_of distance_of in far_target new (new_place x at c bits) (new_small x at new c d bits good f rising i here) (place_small x at new c d bits good f rising i here))
      refl

  address_back : family_of c ≡ 4 → among (target_of new d v) x.moved ≡ true
  unfolding new_bits or_zero
  address_back f =
      is_found (old_target x at c bits) (good.aimed f) λ k e.
      let h : k < length x.moved = omega (arith, first_inside (reaches (width_of c) at bits) x.places 0 k e, rising.as_many) in
      let w : v ≡ distance_bits (width_of d) new (new_place x at c bits) = rw f in
      let p : new_place x at c bits ≡ get_or x.moved k 0 = ap (λ (t : Found). get_or x.moved (or_zero t) 0) e in
      rw w (among_at x.moved k (target_of new d (distance_bits (width_of d) new (new_place x at c bits))) h (target_is f ∙ p))

  -- a distance that is written is read again
  abbrev read : ℕ
  read = le (le_bytes (width_of d) v)

  address_read : family_of c ≡ 4 → read ≡ v
  unfolding new_bits
  address_read f = le_le_bytes (width_of d) v (rw f (place_fits x at new c d bits good f rising i here))

  pub operand_back : pick (eqb (family_of d) 3) (plain (text_at x.into read)) true ≡ true → good_operand x.into x.moved new d read ≡ true
  unfolding good_operand
  operand_back p =
      by_eqb (family_of c) 3
      (λ f. let g : family_of d ≡ 3 = sym good.family ∙ f in rw (g, string_read x at new c d bits good f) (string_back f (rw (g, string_read x at new c d bits good f) at p)))
      λ n. by_eqb (family_of c) 4
      (λ f. let g : family_of d ≡ 4 = sym good.family ∙ f in rw (g, address_read f) (address_back f))
      (λ m. rw (sym good.family, ne_eqb (family_of c) 3 n, ne_eqb (family_of c) 4 m))

-- the operands of a row
module _ (x : Carrying) (rising : Rising x) (i at : ℕ) where
  abbrev new : ℕ
  new = get_or x.moved i 0

  pub operands_back : (q : ℕ) (cs ds ps : List ℕ) → length cs ≡ length ds → Passed (operands_cases x i at q cs ds ps) → Passed (far_cases x i at q cs ds ps)
      → plain_operands x.into ds (new_pairs x at new cs ds ps) ≡ true
      → good_operands x.into x.moved new ds (new_pairs x at new cs ds ps) ≡ true
  unfolding good_operands plain_operands new_pairs operands_cases far_cases
  operands_back q cs [] ps e p f g = refl
  operands_back q [] (d ∷ ds) ps e p f g = absurd (omega arith)
  operands_back q (c ∷ cs) (d ∷ ds) ps e p f g =
      let cases = operand_cases x i at q c d (get_or ps 1 0) in
      let good : Good x at new c d (get_or ps 1 0) = good_operand_lem x i at q new c d (get_or ps 1 0) (passed_left cases _ p) (passed_head f) in
      let w = le (le_bytes (width_of d) (new_bits x at new c d (get_or ps 1 0))) in
      let text : pick (eqb (family_of d) 3) (plain (text_at x.into w)) true ≡ true = both_left _ (plain_operands x.into ds (new_pairs x at new cs ds (drop 2 ps))) g in
      let rest : plain_operands x.into ds (new_pairs x at new cs ds (drop 2 ps)) ≡ true = both_right (pick (eqb (family_of d) 3) (plain (text_at x.into w)) true) _ g in
      both_yes _ _ (operand_back x at new c d (get_or ps 1 0) good rising i refl text)
      (operands_back (suc q) cs ds (drop 2 ps) (omega arith) (passed_right cases _ p) (passed_tail f) rest)

-- all records
module _ (x : Carrying) (rising : Rising x) (last last' : ℕ) (old : Sound x.from last) (sound : Sound x.into last') where
  pub records_back : (i at : ℕ) {rs : List (List ℕ)} → Within last rs → drop i x.moved ≡ moved_from x.from x.into at rs
      → Passed (first_pass x i rs) → Passed (second_pass x i rs) → plain_texts x.into (new_records x at i rs) ≡ true
      → good_records x.into x.moved (new_records x at i rs) ≡ true
  unfolding new_records moved_from good_records good_record plain_texts
  records_back i at Within.none d p s g = refl
  records_back i at (Within.one {r} {rs} l ls) d p s g =
      let here : get_or x.moved i 0 ≡ at = ap (λ (j : ℕ). get_or x.moved j 0) (sym (add-zero i)) ∙ (sym (get_or-drop i x.moved 0 0) ∙ ap (λ (t : List ℕ). get_or t 0 0) d) in
      let behind : drop (suc i) x.moved ≡ moved_from x.from x.into (at + length_of (new_row x.from x.into r)) rs =
      (let q : suc i ≡ i + 1 = omega arith in ap (λ (j : ℕ). drop j x.moved) q) ∙ (sym (drop-drop 1 i x.moved) ∙ ap (drop 1) d) in
      let row = new_row x.from x.into r in
      let ps = new_pairs x (offset_of r) (get_or x.moved i 0) (old_row x.from r) row (pairs_of r) in
      let n : length (old_row x.from r) ≡ length row = old.eight (opcode_of r) l ∙ sym (sound.eight _ (opcode_known x rising last last' old sound i r rs p)) in
      let mine : plain_operands x.into row ps ≡ true = both_left _ (plain_texts x.into (new_records x (at + length_of row) (suc i) rs)) g in
      let theirs : plain_texts x.into (new_records x (at + length_of row) (suc i) rs) ≡ true = both_right (plain_operands x.into row ps) _ g in
      let ops : good_operands x.into x.moved (get_or x.moved i 0) row ps ≡ true =
      operands_back x rising i (offset_of r) 1 (old_row x.from r) row (pairs_of r) n (first_operands_lem x rising last last' old sound i r rs p) (second_left x rising last last' old sound i r rs s) mine in
      let ops' : good_operands x.into x.moved at row ps ≡ true = ap (λ (j : ℕ). good_operands x.into x.moved j row ps) (sym here) ∙ ops in
      rw (valid_name x rising last last' old sound i r rs p, ops')
      (records_back (suc i) (at + length_of row) ls behind (first_rest x rising last last' old sound i r rs p) (second_right x rising last last' old sound i r rs s) theirs)
