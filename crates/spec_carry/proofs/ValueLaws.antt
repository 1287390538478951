-- An operand that passes the carry list means the same on both sides. Assumes nothing.
use mathlib.Core.Path.{◌≡◌, refl, ap, sym, ◌∙◌}
use mathlib.Core.Bool.{Bool, true, false, not}
use Prim.Native.Nat.{ℕ, ◌+◌, ◌^◌, ◌≤◌, ◌<◌}
use native.Mathlib.Omega.{arith}
use lib.Dec.{eqb, leb}
use lib.ListN.{length, get_or}
use borrow.Author.Tests.{eqb-true, ltb-true, leb-true, lt-ltb, eq-eqb, ne_eqb}
use Rattle.lists.specs.Choice.{both, within}
use Rattle.lists.specs.Found.{Found}
use Rattle.lists.specs.Found.Found.{found, missing}
use Rattle.lists.proofs.Tests.{by_test, by_leb, by_eqb, both_left, both_right, true_not_false, within_yes, within_least, within_most}
use Rattle.spec_numbers.specs.LittleEndian.{le, le_bytes}
use Rattle.spec_numbers.proofs.ByteLaws.{le_le_bytes}
use Rattle.spec_sheet.specs.Types.{width_of, family_of}
use Rattle.spec_sheet.specs.Sheet.{is_missing}
use Rattle.spec_sheet.proofs.TypeLaws.{below, implies, implied, each_below, by_address}
use Rattle.spec_strings.proofs.TableLaws.{lookup_there, lookup_equal}
use Rattle.spec_inputs.specs.Context.{has_text, text_at}
use Rattle.spec_carry.specs.Meaning.{reaches, target_in, target_value, value_of, is_some}
use Rattle.spec_carry.specs.Passes.{Carrying, distance_bits, near, new_bits, new_id, new_place, old_target, operand_cases, or_zero}
use Rattle.spec_carry.proofs.CaseLaws.{Passed}
use Rattle.spec_carry.proofs.CaseLaws.Passed.{none, one}
use Rattle.spec_carry.proofs.PlaceLaws.{first_is, first_inside, distance_reaches, distance_fits}

not-false : (a : Bool) → not a ≡ false → a ≡ true
not-false true e = refl
not-false false e = sym e

-- a case whose first test holds, and which does not hold
both_false : (a b : Bool) → both a b ≡ false → a ≡ true → b ≡ false
both_false true b e t = e
both_false false b e t = true_not_false false t refl

-- a search that does not miss
pub is_found : {P : Type 0} (f : Found) → is_missing f ≡ false → ((k : ℕ) → f ≡ found k → P) → P
unfolding is_missing
is_found (found k) e then = then k refl
is_found missing e then = true_not_false true refl e

-- the places of the result: as many as the old ones, rising, and none past the limit of a body
pub record Rising (x : Carrying) : Type 0 where
  pub as_many : length x.moved ≡ length x.places
  pub rises : (j k : ℕ) → j < k → k < length x.moved → get_or x.moved j 0 < get_or x.moved k 0
  pub small : (k : ℕ) → get_or x.moved k 0 ≤ 65536

-- what the carry list says of an operand that passes it
pub record Good (x : Carrying) (at new c d bits : ℕ) : Type 0 where
  pub family : family_of c ≡ family_of d
  pub number_fits : within 1 2 (family_of c) ≡ true → bits < 256 ^ width_of d
  pub has_text_lem : family_of c ≡ 3 → has_text x.from bits ≡ true
  pub known : family_of c ≡ 3 → is_missing (new_id x bits) ≡ false
  pub id_fits : family_of c ≡ 3 → or_zero (new_id x bits) < 256 ^ width_of d
  pub aimed : family_of c ≡ 4 → is_missing (old_target x at c bits) ≡ false
  pub reach : d ≡ 9 → near new (new_place x at c bits) ≡ true

-- i, at, q: the instruction, its old offset, the operand; new: its new offset
pub good_operand_lem : (x : Carrying) (i at q new c d bits : ℕ) → Passed (operand_cases x i at q c d bits) → both (eqb d 9) (not (near new (new_place x at c bits))) ≡ false → Good x at new c d bits
unfolding operand_cases
good_operand_lem x i at q new c d bits (one a (one b (one e (one f (one g (one h none)))))) k =
    record {
      family = eqb-true (family_of c) (family_of d) (not-false _ a);
      number_fits = λ t. ltb-true bits (256 ^ width_of d) (not-false _ (both_false _ _ b t));
      has_text_lem = λ t. not-false _ (both_false _ _ e (eq-eqb (family_of c) 3 t));
      known = λ t. both_false _ _ f (eq-eqb (family_of c) 3 t);
      id_fits = λ t. ltb-true _ (256 ^ width_of d) (not-false _ (both_false _ _ g (eq-eqb (family_of c) 3 t)));
      aimed = λ t. both_false _ _ h (eq-eqb (family_of c) 4 t);
      reach = λ t. not-false _ (both_false _ _ k (eq-eqb d 9 t));
    }

module _ (x : Carrying) (at new c d bits : ℕ) (good : Good x at new c d bits) where
  -- a string has the text
  string_value : family_of c ≡ 3 → value_of x.into x.moved new d (new_bits x at new c d bits) ≡ value_of x.from x.places at c bits
  unfolding value_of new_bits or_zero
  string_value f =
      let g : family_of d ≡ 3 = sym good.family ∙ f in
      is_found (new_id x bits) (good.known f) λ k e.
      let h : has_text x.into k ≡ true = lt-ltb k (length x.into.ends) (lookup_there (text_at x.from bits) x.into.bytes x.into.ends k e) in
      rw (f, g, e, h, good.has_text_lem f, lookup_equal (text_at x.from bits) x.into.bytes x.into.ends k e)

  -- the id that is written is read again
  pub string_read : family_of c ≡ 3 → le (le_bytes (width_of d) (new_bits x at new c d bits)) ≡ new_bits x at new c d bits
  unfolding new_bits
  string_read f = le_le_bytes (width_of d) (new_bits x at new c d bits) (rw f (good.id_fits f))

  -- an address: where it lies, and what its distance reaches
  module _ (f : family_of c ≡ 4) (rising : Rising x) (i : ℕ) (here : get_or x.moved i 0 ≡ new) where
    abbrev pub place : ℕ
    place = new_place x at c bits

    pub new_small : new ≤ 65536
    new_small = rw here at (rising.small i)

    pub place_small : place ≤ 65536
    place_small = rising.small (or_zero (old_target x at c bits))

    -- an Addr8 is near
    pub near_8 : d ≡ 9 → (new ≤ place + 128) × (place < new + 128)
    unfolding near
    near_8 e =
        let n = good.reach e in
        (leb-true new (place + 128) (both_left _ _ n), (let m = leb-true place (new + 127) (both_right (leb new (place + 128)) _ n) in omega arith))

    -- the distance reaches the place and no other
    pub reaches_place : (q : ℕ) → reaches (width_of d) new (distance_bits (width_of d) new place) q ≡ eqb place q
    reaches_place q =
        by_address (λ e. (d ≡ e) → reaches (width_of e) new (distance_bits (width_of e) new place) q ≡ eqb place q) d (sym good.family ∙ f)
        (λ e. let n = near_8 e in unfold width_of in distance_reaches 1 128 new place refl refl (omega arith) n.0 n.1 q)
        (λ e. unfold width_of in distance_reaches 4 (2 ^ 31) new place refl refl (omega arith) (omega (arith, new_small)) (omega (arith, place_small)) q)
        refl

    pub place_fits : distance_bits (width_of d) new place < 256 ^ width_of d
    place_fits =
        by_address (λ e. (d ≡ e) → distance_bits (width_of e) new place < 256 ^ width_of e) d (sym good.family ∙ f)
        (λ e. let n = near_8 e in unfold width_of in distance_fits 1 128 new place refl refl (omega arith) n.0 n.1)
        (λ e. unfold width_of in distance_fits 4 (2 ^ 31) new place refl refl (omega arith) (omega (arith, new_small)) (omega (arith, place_small)))
        refl

    -- so the index of the target is kept
    address_target : (k : ℕ) → old_target x at c bits ≡ found k → target_in x.moved (width_of d) new (distance_bits (width_of d) new place) ≡ found k
    unfolding or_zero
    address_target k e =
        let h : k < length x.moved = omega (arith, first_inside (reaches (width_of c) at bits) x.places 0 k e, rising.as_many) in
        let p : place ≡ get_or x.moved k 0 = ap (λ (t : Found). get_or x.moved (or_zero t) 0) e in
        first_is (reaches (width_of d) new (distance_bits (width_of d) new place)) x.moved 0 k h
        (reaches_place (get_or x.moved k 0) ∙ eq-eqb place (get_or x.moved k 0) p)
        (λ j l. reaches_place (get_or x.moved j 0) ∙ ne_eqb place (get_or x.moved j 0) (λ z. omega (arith, rising.rises j k l h)))
        ∙ ap found (omega arith)

    address_value : value_of x.into x.moved new d (new_bits x at new c d bits) ≡ value_of x.from x.places at c bits
    unfolding value_of new_bits target_value
    address_value =
        let g : family_of d ≡ 4 = sym good.family ∙ f in
        is_found (old_target x at c bits) (good.aimed f) λ k e.
        rw (f, g, address_target k e, e)

  -- any other operand
  other_value : (family_of c ≡ 3 → ⊥) → (family_of c ≡ 4 → ⊥) → value_of x.into x.moved new d (new_bits x at new c d bits) ≡ value_of x.from x.places at c bits
  unfolding value_of new_bits
  other_value n m = rw (sym good.family, ne_eqb (family_of c) 3 n, ne_eqb (family_of c) 4 m)

  pub same_value : Rising x → (i : ℕ) → get_or x.moved i 0 ≡ new → value_of x.into x.moved new d (new_bits x at new c d bits) ≡ value_of x.from x.places at c bits
  same_value rising i here =
      by_eqb (family_of c) 3 string_value λ n.
      by_eqb (family_of c) 4 (λ f. address_value f rising i here) λ m.
      other_value n m

  -- and what is written fits
  module _ (cs : c ≤ 12) (ds : d ≤ 12) (b : bits < 256 ^ width_of c) where
    -- a family that is neither Reg nor UInt nor string nor Addr has one width
    one_width : (within 1 4 (family_of c) ≡ true → ⊥) → width_of c ≡ width_of d
    unfolding below implies family_of width_of
    one_width n =
        eqb-true (width_of c) (width_of d)
        (implied (both (eqb (family_of c) (family_of d)) (not (within 1 4 (family_of c)))) (eqb (width_of c) (width_of d))
        (each_below (pair c) 13 (each_below (λ a. below (pair a) 13) 13 refl c (omega arith)) d (omega arith))
        (rw (eq-eqb (family_of c) (family_of d) good.family) (by_test (within 1 4 (family_of c)) (λ t. absurd (n t)) (λ t. rw t))))
      where
        pair : ℕ → ℕ → Bool
        pair a b = implies (both (eqb (family_of a) (family_of b)) (not (within 1 4 (family_of a)))) (eqb (width_of a) (width_of b))

    other_fits : (family_of c ≡ 3 → ⊥) → (family_of c ≡ 4 → ⊥) → new_bits x at new c d bits < 256 ^ width_of d
    unfolding new_bits
    other_fits n m =
        rw (ne_eqb (family_of c) 3 n, ne_eqb (family_of c) 4 m)
        (by_test (within 1 2 (family_of c)) good.number_fits
        (λ t. rw (one_width (λ z. go (family_of c) t z n m)) at b))
      where
        go : (f : ℕ) → within 1 2 f ≡ false → within 1 4 f ≡ true → (f ≡ 3 → ⊥) → (f ≡ 4 → ⊥) → ⊥
        go f t z n m = by_leb f 2 (λ l. true_not_false (within 1 2 f) (within_yes 1 2 f (within_least 1 4 f z) l) t) (λ l. omega (arith, within_least 1 4 f z, within_most 1 4 f z, n, m))

    pub new_fits : Rising x → (i : ℕ) → get_or x.moved i 0 ≡ new → new_bits x at new c d bits < 256 ^ width_of d
    unfolding new_bits
    new_fits rising i here =
        by_eqb (family_of c) 3 (λ f. rw f (good.id_fits f)) λ n.
        by_eqb (family_of c) 4 (λ f. rw f (place_fits f rising i here)) λ m.
        other_fits n m

  -- and it stands for something
  pub value_some : is_some (value_of x.from x.places at c bits) ≡ true
  unfolding is_some value_of target_value
  value_some =
      by_eqb (family_of c) 3 (λ f. rw (f, good.has_text_lem f)) λ n.
      by_eqb (family_of c) 4 (λ f. is_found (old_target x at c bits) (good.aimed f) λ k e. rw (f, e)) λ m.
      rw (ne_eqb (family_of c) 3 n, ne_eqb (family_of c) 4 m)
