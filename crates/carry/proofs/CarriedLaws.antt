-- One operand in both passes, by its plan. Assumes nothing.
use mathlib.Core.Path.{◌≡◌, refl, ap, sym, ◌∙◌}
use mathlib.Core.Bool.{true, false, not}
use mathlib.Core.List.{List}
use Prim.Native.Nat.{ℕ, zero, suc, ◌-◌, ◌^◌, ◌<◌}
use native.Mathlib.Omega.{arith}
use Rattle.std.specs.Prelude.{Option, None, Some, Ok, Err}
use lib.Dec.{eqb, ltb}
use lib.ListN.{length, get_or}
use borrow.Author.Tests.{eq-eqb, ne_eqb, lt-ltb}
use Rattle.lists.specs.Choice.{both, within}
use Rattle.lists.specs.Write.{ByWords}
use Rattle.lists.proofs.Tests.{by_test, by_eqb, both_no_left, true_not_false}
use Rattle.answers.specs.Outcome.{Outcome}
use Rattle.answers.specs.declared.refusal.OperandFault.{OperandFault}
use Rattle.answers.specs.declared.refusal.OperandFault.TheVariants.{NotCarried, Address}
use Rattle.spec_numbers.specs.LittleEndian.{le_bytes}
use Rattle.spec_sheet.specs.Types.{width_of, family_of}
use Rattle.spec_sheet.proofs.TypeLaws.{within_range}
use Rattle.spec_carry.specs.Cases.{unless_case}
use Rattle.spec_carry.specs.Passes.{Carrying, fits, operand_cases, new_bits}
use Rattle.carry.specs.Marks.{Marked}
use Rattle.carry.specs.Plans.{action_of}
use Rattle.carry.specs.NewBits.{NewBits, near_bits, on_moved, number_into, mark_into, id_into, target_mark, distance_into, address_into, is_far, Moved}
use Rattle.carry.specs.NewBits.Moved.{has_bits, too_far, is_refused}
use Rattle.carry.specs.Carried.{OperandCarried}
use Rattle.carry.specs.Carried.OperandCarried.{is_near as operand-near, too_far as operand-far, is_refused as operand-refused}
use Rattle.carry.specs.declared.plans.Action.{Action}
use Rattle.carry.specs.declared.plans.Action.TheVariants.{Keeps, Number, String, Addr, OtherFamily}
use Rattle.carry.proofs.PlanLaws.{Says, said}
use Rattle.carry.proofs.PlanLaws.Says.{others, strings, addrs, numbers, kept}
use Rattle.carry.proofs.CheckLaws.{of_others, of_number, of_string, of_target, of_rest}
use Rattle.carry.proofs.WriteLaws.{none_holds, bits_in, string_bits, target_bits, rest_bits, bits_near, bits_far}

-- a number that fits is written as it is
number_near : (w k : ℕ) (o : Option ℕ) → near_bits (number_into w k) ≡ Ok o → Some k ≡ o
number_near w k o e =
    by_test (ltb k (256 ^ w))
    (λ h. let y : ◌≡◌ {A = NewBits} (Ok (Some k)) (Ok o) = rw h at e in cc y)
    (λ h. absurd (let y : ◌≡◌ {A = NewBits} (Err NotCarried) (Ok o) = rw h at e in cc y))

mark_near : (w mark : ℕ) (o : Option ℕ) → near_bits (mark_into w mark) ≡ Ok o → Some (mark - 1) ≡ o
unfolding mark_into
mark_near w zero o e = absurd (cc e)
mark_near w (suc k) o e = ap Some (let z : suc k - 1 ≡ k = omega arith in z) ∙ number_near w k o e

-- an operand that keeps its bytes passes the first pass, is not too far, and has its own bits
module _ (x : Carrying) (i at q c d bits : ℕ) (same : family_of c ≡ family_of d) (no-string : family_of c ≡ 3 → ⊥) (no_address : family_of c ≡ 4 → ⊥) where
  pub kept_passes : both (not (eqb c d)) (within 1 2 (family_of c)) ≡ false → bits < 256 ^ width_of c → (rest : Outcome) → unless_case (operand_cases x i at q c d bits) rest ≡ rest
  unfolding on_moved
  kept_passes k small rest =
      by_test (within 1 2 (family_of c))
      (λ w.
      let e : c ≡ d = by_eqb c d (λ z. z) (λ z. absurd (let y : true ≡ false = rw (ne_eqb c d z, w) at k in true_not_false true refl y)) in
      let f : fits d bits ≡ true = lt-ltb bits (256 ^ width_of d) (rw e at small) in
      of_number x i at q c d bits rest same (family_of c) refl w (ne_eqb (family_of c) 3 no-string) (ne_eqb (family_of c) 4 no_address) ∙ rw f)
      (λ w. of_rest x i at q c d bits rest same
      (λ z. let y : within 1 2 1 ≡ false = rw z at w in true_not_false true refl y)
      (λ z. let y : within 1 2 2 ≡ false = rw z at w in true_not_false true refl y)
      no-string no_address)

  pub kept_near : is_far x i at c d bits ≡ false
  unfolding family_of
  kept_near = both_no_left (eqb d 9) _ (ne_eqb d 9 (λ z. no_address (same ∙ ap family_of z)))

  pub kept_bits : (new : ℕ) → new_bits x at new c d bits ≡ bits
  unfolding new_bits
  kept_bits new = rw (ne_eqb (family_of c) 3 no-string, ne_eqb (family_of c) 4 no_address)

module _ (x : Carrying) (i at q new c d bits : ℕ) (map ids : List ℕ) (m : Marked x map ids) (here : new ≡ get_or x.moved i 0) where
  abbrev written : Option ℕ
  written = bits_in c d at new bits map ids

  -- an answer that says what the first pass does, and what is written
  moved : (r : NewBits) → ((rest : Outcome) → unless_case (operand_cases x i at q c d bits) rest ≡ on_moved r i q rest) → ((o : Option ℕ) → r ≡ Ok o → written ≡ o) → Moved x i at q new c d bits r
  unfolding on_moved
  moved (Ok (Some n)) said b = let h = bits_near x i at q c d bits (none_holds _ said) map ids m new here n (b (Some n) refl) in has_bits n refl said h.0 h.1
  moved (Ok None) said b = too_far refl said (bits_far x i at q c d bits (none_holds _ said) map ids m new here (b None refl))
  moved (Err v) said b = is_refused v refl said

  -- another family
  pub others_moved : (family_of c ≡ family_of d → ⊥) → Moved x i at q new c d bits (Err NotCarried)
  unfolding on_moved
  others_moved n = is_refused NotCarried refl (λ rest. of_others x i at q c d bits rest n)

  module _ (same : family_of c ≡ family_of d) where
    -- a number of another width
    pub number_moved : within 1 2 (family_of c) ≡ true → Moved x i at q new c d bits (near_bits (number_into (width_of d) bits))
    number_moved w =
        let h = within_range 1 2 (family_of c) w in
        let no-string : family_of c ≡ 3 → ⊥ = λ f. omega (arith, h.1, f) in
        let no_address : family_of c ≡ 4 → ⊥ = λ f. omega (arith, h.1, f) in
        moved (near_bits (number_into (width_of d) bits))
        (λ rest. of_number x i at q c d bits rest same (family_of c) refl w (ne_eqb (family_of c) 3 no-string) (ne_eqb (family_of c) 4 no_address))
        (λ o e. rest_bits c d at new bits map ids no-string no_address ∙ number_near (width_of d) bits o e)

    -- the id of a string
    pub id_moved : family_of c ≡ 3 → Moved x i at q new c d bits (near_bits (id_into (width_of d) bits ids))
    id_moved f =
        moved (near_bits (id_into (width_of d) bits ids))
        (λ rest. of_string x i at q c d bits rest same f ids m.translated)
        (λ o e. string_bits c d at new bits map ids f ∙ go o e)
      where
        go : (o : Option ℕ) → near_bits (id_into (width_of d) bits ids) ≡ Ok o → Some (get_or ids bits 0 - 1) ≡ o
        go o e =
            by_test (ltb bits (length ids))
            (λ h. mark_near (width_of d) (get_or ids bits 0) o (rw h at e))
            (λ h. absurd (let y : ◌≡◌ {A = NewBits} (Err NotCarried) (Ok o) = rw h at e in cc y))

    -- an Addr
    pub address_moved : family_of c ≡ 4 → Moved x i at q new c d bits (address_into (width_of d) new (target_mark (width_of c) at bits map))
    address_moved f =
        moved (address_into (width_of d) new mark)
        (λ rest. of_target x i at q c d bits rest same f map new m.mapped)
        (λ o e. target_bits c d at new bits map ids f ∙ go o e)
      where
        mark : ℕ
        mark = target_mark (width_of c) at bits map

        go : (o : Option ℕ) → address_into (width_of d) new mark ≡ Ok o → distance_into (width_of d) new (mark - 1) ≡ o
        go o e =
            by_eqb mark 0
            (λ z. absurd (let y : ◌≡◌ {A = NewBits} (Err Address) (Ok o) = rw (eq-eqb mark 0 z) at e in cc y))
            (λ z. let y : ◌≡◌ {A = NewBits} (Ok (distance_into (width_of d) new (mark - 1))) (Ok o) = rw (ne_eqb mark 0 z) at e in cc y)

    -- one that keeps its bytes
    pub kept_moved : (family_of c ≡ 3 → ⊥) → (family_of c ≡ 4 → ⊥) → both (not (eqb c d)) (within 1 2 (family_of c)) ≡ false → bits < 256 ^ width_of c → Moved x i at q new c d bits (Ok (Some bits))
    unfolding on_moved
    kept_moved no-string no_address k small =
        moved (Ok (Some bits))
        (kept_passes x i at q c d bits same no-string no_address k small)
        (λ o e. rest_bits c d at new bits map ids no-string no_address ∙ cc e)

  -- by its action
  abbrev by_action : Action → NewBits
  by_action Keeps = Ok (Some bits)
  by_action Number = near_bits (number_into (width_of d) bits)
  by_action String = near_bits (id_into (width_of d) bits ids)
  by_action Addr = address_into (width_of d) new (target_mark (width_of c) at bits map)
  by_action OtherFamily = Err NotCarried

  pub action_moved : (a : Action) → a ≡ action_of c d → bits < 256 ^ width_of c → Moved x i at q new c d bits (by_action a)
  action_moved a e small = rw e (go (action_of c d) (said c d))
    where
      go : (a : Action) → Says c d a → Moved x i at q new c d bits (by_action a)
      go OtherFamily (others n) = others_moved n
      go String (strings e f) = id_moved e f
      go Addr (addrs e f) = address_moved e f
      go Number (numbers e w) = number_moved e w
      go Keeps (kept e f g t) = kept_moved e f g t small

-- and then written, or too far
module _ (x : Carrying) (i at q new c d bits : ℕ) (out : List ℕ) (k : ℕ) (out' : List ℕ) where
  pub carried_near : (n k' : ℕ) → Moved x i at q new c d bits (Ok (Some n)) → ByWords out k (le_bytes (width_of d) n) out' k' → OperandCarried x i at q new c d bits out k out' (Ok (Some k'))
  carried_near n k' (has_bits n' e p h b) w = let z : n ≡ n' = cc e in operand-near k' refl p h (rw (z ∙ b) at w)
  carried_near n k' (too_far e p h) w = absurd (cc e)
  carried_near n k' (is_refused f e p) w = absurd (cc e)

  pub carried_far : Moved x i at q new c d bits (Ok None) → OperandCarried x i at q new c d bits out k out' (Ok None)
  carried_far (has_bits n' e p h b) = absurd (cc e)
  carried_far (too_far e p h) = operand-far refl p h
  carried_far (is_refused f e p) = absurd (cc e)

  pub carried_refused : (f : OperandFault) → Moved x i at q new c d bits (Err f) → OperandCarried x i at q new c d bits out k out' (Err f)
  carried_refused f (has_bits n' e p h b) = absurd (cc e)
  carried_refused f (too_far e p h) = absurd (cc e)
  carried_refused f (is_refused f' e p) = let z : f' ≡ f = cc e in operand-refused f' (ap Err (sym z)) p
