-- One operand in the first pass, by its family. Assumes nothing.
use mathlib.Core.Path.{◌≡◌, refl, ap, ◌∙◌}
use mathlib.Core.Bool.{true, false}
use mathlib.Core.List.{List}
use Prim.Native.Nat.{ℕ, suc}
use native.Mathlib.Omega.{arith}
use Rattle.std.specs.Prelude.{Some, Ok, Err}
use lib.Dec.{eqb}
use lib.ListN.{length, get_or}
use borrow.Author.Tests.{eq-eqb, ne_eqb, ltb-true}
use Rattle.lists.specs.Choice.{within}
use Rattle.lists.specs.Found.{Found}
use Rattle.lists.specs.Found.Found.{found, missing}
use Rattle.lists.proofs.Tests.{by_test, by_leb, within_low, within_high}
use Rattle.answers.specs.Outcome.{Outcome}
use Rattle.spec_sheet.specs.Types.{width_of, family_of}
use Rattle.spec_sheet.specs.Sheet.{is_missing}
use Rattle.spec_inputs.specs.Context.{has_text}
use Rattle.spec_carry.specs.Cases.{unless_case}
use Rattle.spec_carry.specs.Passes.{Carrying, or_zero, new_id, old_target, fits, operand_cases}
use Rattle.carry.specs.Ids.{id_mark, Translated}
use Rattle.carry.specs.Places.{place_mark, Mapped}
use Rattle.carry.specs.NewBits.{NewBits, near_bits, on_moved, number_into, mark_into, id_into, target_mark, address_into}
use Rattle.answers.specs.declared.refusal.OperandFault.TheVariants.{NotCarried}
use Rattle.carry.proofs.TargetLaws.{target_mark_lem}

-- a family of neither registers nor numbers
pub outside : (n : ℕ) → (n ≡ 1 → ⊥) → (n ≡ 2 → ⊥) → within 1 2 n ≡ false
outside n a b = by_leb 1 n (λ l. within_high 1 2 n (omega (arith, a, b))) (λ l. within_low 1 2 n l)

module _ (x : Carrying) (i at q c d bits : ℕ) (rest : Outcome) where
  abbrev goal : NewBits → Type 0
  goal r = unless_case (operand_cases x i at q c d bits) rest ≡ on_moved r i q rest

  -- other families
  pub of_others : (family_of c ≡ family_of d → ⊥) → goal (Err NotCarried)
  unfolding unless_case operand_cases on_moved
  of_others n = rw (ne_eqb (family_of c) (family_of d) n)

  module _ (same : family_of c ≡ family_of d) where
    same_test : eqb (family_of c) (family_of d) ≡ true
    same_test = eq-eqb (family_of c) (family_of d) same

    -- registers and numbers
    pub of_number : (f : ℕ) → family_of c ≡ f → within 1 2 f ≡ true → eqb f 3 ≡ false → eqb f 4 ≡ false → goal (near_bits (number_into (width_of d) bits))
    unfolding unless_case operand_cases on_moved
    of_number f e a b h =
        by_test (fits d bits)
        (λ t. rw (same_test, e, a, b, h, t))
        (λ t. rw (same_test, e, a, b, h, t))

    -- strings
    pub of_string : family_of c ≡ 3 → (ids : List ℕ) → Translated x.from.bytes x.from.ends x.into.bytes x.into.ends ids → goal (near_bits (id_into (width_of d) bits ids))
    unfolding unless_case operand_cases on_moved id_mark is_missing or_zero mark_into
    of_string e ids t =
        by_test (has_text x.from bits)
        (λ h. there h (new_id x bits) refl)
        (λ h. rw (same_test, e, t.many, h))
      where
        there : has_text x.from bits ≡ true → (f : Found) → new_id x bits ≡ f → goal (near_bits (id_into (width_of d) bits ids))
        there h (found k) n =
            let m : get_or ids bits 0 ≡ suc k = t.each bits (ltb-true bits (length x.from.ends) h) ∙ ap id_mark n in
            by_test (fits d k)
            (λ g. let u : fits d (or_zero (new_id x bits)) ≡ true = rw n g in
            rw (same_test, e, t.many, h, u, n, m, g))
            (λ g. let u : fits d (or_zero (new_id x bits)) ≡ false = rw n g in
            rw (same_test, e, t.many, h, u, n, m, g))
        there h missing n =
            let m : get_or ids bits 0 ≡ 0 = t.each bits (ltb-true bits (length x.from.ends) h) ∙ ap id_mark n in
            rw (same_test, e, t.many, h, n, m)

    -- addresses
    pub of_target : family_of c ≡ 4 → (map : List ℕ) (new : ℕ) → Mapped x map → goal (address_into (width_of d) new (target_mark (width_of c) at bits map))
    unfolding unless_case operand_cases on_moved is_missing place_mark
    of_target e map new m = rw (target_mark_lem x map c at bits m) (go (old_target x at c bits) refl)
      where
        go : (f : Found) → old_target x at c bits ≡ f → goal (address_into (width_of d) new (place_mark x.moved f))
        go (found k) n =
            let z : eqb (suc (get_or x.moved k 0)) 0 ≡ false = ne_eqb (suc (get_or x.moved k 0)) 0 (λ y. omega arith) in
            rw (same_test, e, n, z)
        go missing n = rw (same_test, e, n)

    -- anything else
    pub of_rest : (family_of c ≡ 1 → ⊥) → (family_of c ≡ 2 → ⊥) → (family_of c ≡ 3 → ⊥) → (family_of c ≡ 4 → ⊥) → goal (Ok (Some bits))
    unfolding unless_case operand_cases on_moved
    of_rest a b e f =
        rw (same_test, outside (family_of c) a b, ne_eqb (family_of c) 3 e, ne_eqb (family_of c) 4 f)
