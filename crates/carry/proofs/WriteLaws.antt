-- One operand in the second pass, by its family. Assumes nothing.
use mathlib.Core.Path.{◌≡◌, refl, ap, sym, ◌∙◌}
use mathlib.Core.Bool.{true, false}
use mathlib.Core.List.{List, []}
use Prim.Native.Nat.{ℕ, ◌+◌, ◌-◌, ◌*◌, ◌^◌, ◌≤◌, ◌<◌}
use native.Mathlib.Omega.{arith}
use Rattle.std.specs.Prelude.{Option, None, Some}
use lib.Dec.{eqb, leb}
use lib.ListN.{length, get_or}
use borrow.Author.Tests.{le-leb, lt-leb, ne_eqb, ltb-true}
use Rattle.lists.specs.Choice.{pick}
use Rattle.lists.specs.Found.{Found}
use Rattle.lists.specs.Found.Found.{found, missing}
use Rattle.lists.proofs.Tests.{by_test, by_leb, by_eqb, both_no_left, both_no_right, true_not_false}
use Rattle.answers.specs.Outcome.{Outcome, produced}
use Rattle.spec_sheet.specs.Types.{width_of, family_of}
use Rattle.spec_sheet.proofs.TypeLaws.{by_address}
use Rattle.spec_carry.specs.Cases.{Case, unless_case}
use Rattle.spec_carry.specs.Passes.{Carrying, or_zero, near, new_id, new_place, old_target, operand_cases, distance_bits, new_bits}
use Rattle.spec_carry.proofs.CaseLaws.{Passed, result_passed}
use Rattle.spec_carry.proofs.ValueLaws.{Good, good_operand_lem, is_found}
use Rattle.carry.specs.Ids.{id_mark}
use Rattle.carry.specs.Marks.{Marked}
use Rattle.carry.specs.Places.{place_mark}
use Rattle.carry.specs.NewBits.{target_mark, distance_into, is_far}
use Rattle.carry.proofs.TargetLaws.{target_mark_lem}

-- cases that change no outcome: none holds
pub none_holds : (cs : List Case) → ((rest : Outcome) → unless_case cs rest ≡ rest) → Passed cs
none_holds cs f = result_passed cs (produced 0 [] []) _ (f (produced 0 [] []))

-- how far it is on, and back
module _ (at place : ℕ) where
  pub near_on : at ≤ place → near at place ≡ leb (place - at) 127
  unfolding near
  near_on h =
      let a : at ≤ place + 128 = omega arith in
      by_leb (place - at) 127
      (λ l. let b : place ≤ at + 127 = omega arith in rw (le-leb at (place + 128) a, le-leb (place - at) 127 l) (le-leb place (at + 127) b))
      (λ l. let b : at + 127 < place = omega arith in rw (le-leb at (place + 128) a, lt-leb (place - at) 127 l) (lt-leb place (at + 127) b))

  pub near_back : place < at → near at place ≡ leb (at - place) 128
  unfolding near
  near_back h =
      let b : place ≤ at + 127 = omega arith in
      by_leb (at - place) 128
      (λ l. let a : at ≤ place + 128 = omega arith in rw (le-leb at (place + 128) a, le-leb (at - place) 128 l) (le-leb place (at + 127) b))
      (λ l. let a : place + 128 < at = omega arith in rw (lt-leb at (place + 128) a, lt-leb (at - place) 128 l))

  pub near_most : near at place ≡ true → at ≤ place + 256
  near_most e =
      by_leb at place
      (λ l. omega arith)
      (λ l. by_leb (at - place) 128 (λ m. omega arith) (λ m. true_not_false (near at place) e (near_back l ∙ lt-leb (at - place) 128 m)))

  pub distance_on : (w : ℕ) → at ≤ place → distance_bits w at place ≡ place - at
  unfolding distance_bits
  distance_on w h = rw (le-leb at place h)

  pub distance_back : (w : ℕ) → place < at → distance_bits w at place ≡ 2 ^ (8 * w) - (at - place)
  unfolding distance_bits
  distance_back w h = rw (lt-leb at place h)

  -- in an Addr of four bytes, and of one
  module _ (w : ℕ) where
    pub in_four : (w ≡ 1 → ⊥) → distance_into w at place ≡ Some (distance_bits w at place)
    in_four n = rw (ne_eqb w 1 n)

    pub in_one : w ≡ 1 → near at place ≡ true → distance_into w at place ≡ Some (distance_bits 1 at place)
    in_one e n = rw (e, n)

    pub past_one : w ≡ 1 → near at place ≡ false → distance_into w at place ≡ None
    past_one e n = rw (e, n)

-- an operand by its family: a mark is 1 more than what it stands for
abbrev pub bits_in : ℕ → ℕ → ℕ → ℕ → ℕ → List ℕ → List ℕ → Option ℕ
bits_in c d at new bits map ids =
    pick (eqb (family_of c) 3) (Some (get_or ids bits 0 - 1))
    (pick (eqb (family_of c) 4) (distance_into (width_of d) new (target_mark (width_of c) at bits map - 1)) (Some bits))

module _ (c d at new bits : ℕ) (map ids : List ℕ) where
  pub string_bits : family_of c ≡ 3 → bits_in c d at new bits map ids ≡ Some (get_or ids bits 0 - 1)
  string_bits f = rw f

  pub target_bits : family_of c ≡ 4 → bits_in c d at new bits map ids ≡ distance_into (width_of d) new (target_mark (width_of c) at bits map - 1)
  target_bits f = rw f

  pub rest_bits : (family_of c ≡ 3 → ⊥) → (family_of c ≡ 4 → ⊥) → bits_in c d at new bits map ids ≡ Some bits
  rest_bits n o = rw (ne_eqb (family_of c) 3 n, ne_eqb (family_of c) 4 o)

-- the Addr of one byte
addr_one : (d : ℕ) → family_of d ≡ 4 → eqb (width_of d) 1 ≡ eqb d 9
unfolding width_of
addr_one d f = by_address (λ d. eqb (width_of d) 1 ≡ eqb d 9) d f refl refl

-- a mark less 1
id_marked : (f : Found) → id_mark f - 1 ≡ or_zero f
unfolding id_mark or_zero
id_marked (found k) = omega arith
id_marked missing = refl

place_marked : (moved : List ℕ) (f : Found) (k : ℕ) → f ≡ found k → place_mark moved f - 1 ≡ get_or moved (or_zero f) 0
unfolding place_mark or_zero
place_marked moved f k e = rw e (omega arith)

-- an operand that was checked
module _ (x : Carrying) (i at q c d bits : ℕ) (p : Passed (operand_cases x i at q c d bits)) where
  -- what the first pass says of it: from its target it would be near
  checked : Good x at (new_place x at c bits) c d bits
  unfolding near
  checked =
      let place = new_place x at c bits in
      let a : place ≤ place + 128 = omega arith in
      let b : place ≤ place + 127 = omega arith in
      good_operand_lem x i at q place c d bits p (both_no_right (eqb d 9) _ (rw (le-leb place (place + 128) a, le-leb place (place + 127) b)))

  pub same_family : family_of c ≡ family_of d
  same_family = checked.family

  -- an operand of another family is not too far
  other_near : (family_of c ≡ 4 → ⊥) → is_far x i at c d bits ≡ false
  unfolding family_of
  other_near n = both_no_left (eqb d 9) _ (ne_eqb d 9 (λ e. n (same_family ∙ ap family_of e)))

  module _ (map ids : List ℕ) (m : Marked x map ids) (new : ℕ) (here : new ≡ get_or x.moved i 0) where
    abbrev goal : Type 0
    goal = bits_in c d at new bits map ids ≡ pick (is_far x i at c d bits) None (Some (new_bits x at new c d bits))

    of_string : family_of c ≡ 3 → goal
    unfolding new_bits
    of_string f =
        let h = ltb-true bits (length x.from.ends) (checked.has_text_lem f) in
        let e : get_or ids bits 0 - 1 ≡ or_zero (new_id x bits) = ap (λ (n : ℕ). n - 1) (m.translated.each bits h) ∙ id_marked (new_id x bits) in
        rw (other_near (λ g. omega arith), f) (ap Some e)

    of_target : family_of c ≡ 4 → goal
    unfolding new_bits
    of_target f =
        let e : target_mark (width_of c) at bits map - 1 ≡ new_place x at c bits =
        ap (λ (n : ℕ). n - 1) (target_mark_lem x map c at bits m.mapped) ∙ is_found (old_target x at c bits) (checked.aimed f) (λ k g. place_marked x.moved (old_target x at c bits) k g) in
        rw (f, e, here, addr_one d (sym same_family ∙ f)) refl

    of_rest : (family_of c ≡ 3 → ⊥) → (family_of c ≡ 4 → ⊥) → goal
    unfolding new_bits
    of_rest n o = rw (other_near o, ne_eqb (family_of c) 3 n, ne_eqb (family_of c) 4 o)

    pub bits_are : goal
    bits_are = by_eqb (family_of c) 3 of_string λ n. by_eqb (family_of c) 4 of_target λ o. of_rest n o

    -- the bits as they were answered, or 8
    pub bits_near : (n : ℕ) → bits_in c d at new bits map ids ≡ Some n → (is_far x i at c d bits ≡ false) × (n ≡ new_bits x at new c d bits)
    bits_near n e =
        by_test (is_far x i at c d bits)
        (λ h. absurd (let y : None ≡ Some n = rw h at (sym bits_are ∙ e) in cc y))
        (λ h. let y : Some (new_bits x at new c d bits) ≡ Some n = rw h at (sym bits_are ∙ e) in
        let z : n ≡ new_bits x at new c d bits = cc y in
        (h, z))

    pub bits_far : bits_in c d at new bits map ids ≡ None → is_far x i at c d bits ≡ true
    bits_far e =
        by_test (is_far x i at c d bits)
        (λ h. h)
        (λ h. absurd (let y : Some (new_bits x at new c d bits) ≡ None = rw h at (sym bits_are ∙ e) in cc y))
