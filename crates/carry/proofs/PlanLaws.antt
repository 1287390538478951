-- What a plan says of an operand's types. Assumes nothing.
use mathlib.Core.Path.{◌≡◌, refl, ap, sym, ◌∙◌}
use mathlib.Core.Bool.{true, false, not}
use mathlib.Core.Logic.◌⊎◌.{inl, inr}
use mathlib.Core.List.{List, [], ◌∷◌}
use Prim.Native.Nat.{ℕ, zero, suc, ◌+◌, ◌≤◌}
use native.Mathlib.Omega.{arith}
use Rattle.std.specs.Prelude.{Option, None, Some}
use lib.Dec.{eqb}
use lib.ListN.{length, drop, get_or}
use lib.Seq.{get_or-drop, ext_get_or}
use borrow.Author.Tests.{eq-eqb, ne_eqb}
use Rattle.lists.specs.Choice.{both, within}
use Rattle.lists.proofs.Tests.{by_test, by_eqb, both_right}
use Rattle.spec_sheet.specs.Types.{width_of, family_of}
use Rattle.spec_sheet.proofs.TypeLaws.{by_address}
use Rattle.carry.specs.Plans.{action_of, is_kept, planned, plan_of, plan_row, RowPlanned}
use Rattle.carry.specs.EmptyRow.{empty}
use Rattle.carry.specs.NewBits.{AddrWidth}
use Rattle.carry.proofs.Filling.{Filled}
use Rattle.carry.specs.declared.opcodes.OpcodeRow.{OpcodeRow}
use Rattle.carry.specs.declared.plans.Plan.{Plan}
use Rattle.carry.specs.declared.plans.Action.{Action}
use Rattle.carry.specs.declared.plans.Action.TheVariants.{Keeps, Number, String, Addr, OtherFamily}

module _ (c d : ℕ) where
  -- what an action says of the two types
  pub data Says : Action → Type 0 where
    others : (family_of c ≡ family_of d → ⊥) → Says OtherFamily
    strings : family_of c ≡ family_of d → family_of c ≡ 3 → Says String
    addrs : family_of c ≡ family_of d → family_of c ≡ 4 → Says Addr
    numbers : family_of c ≡ family_of d → within 1 2 (family_of c) ≡ true → Says Number
    kept : family_of c ≡ family_of d → (family_of c ≡ 3 → ⊥) → (family_of c ≡ 4 → ⊥) → both (not (eqb c d)) (within 1 2 (family_of c)) ≡ false → Says Keeps

  pub said : Says (action_of c d)
  unfolding action_of
  said =
      by_eqb (family_of c) (family_of d)
      (λ e. rw (eq-eqb (family_of c) (family_of d) e)
      (by_eqb (family_of c) 3
      (λ f. rw (eq-eqb (family_of c) 3 f) (strings e f))
      (λ f. rw (ne_eqb (family_of c) 3 f)
      (by_eqb (family_of c) 4
      (λ g. rw (eq-eqb (family_of c) 4 g) (addrs e g))
      (λ g. rw (ne_eqb (family_of c) 4 g)
      (by_test (both (not (eqb c d)) (within 1 2 (family_of c)))
      (λ t. rw t (numbers e (both_right (not (eqb c d)) _ t)))
      (λ t. rw t (kept e f g t))))))))
      (λ n. rw (ne_eqb (family_of c) (family_of d) n) (others n))

  -- of an Addr
  pub when_addr : action_of c d ≡ Addr → (family_of c ≡ 4) × (family_of d ≡ 4)
  when_addr = go (action_of c d) said
    where
      go : (a : Action) → Says a → a ≡ Addr → (family_of c ≡ 4) × (family_of d ≡ 4)
      go OtherFamily (others n) z = absurd (cc z)
      go String (strings e f) z = absurd (cc z)
      go Addr (addrs e f) z = (f, sym e ∙ f)
      go Number (numbers e w) z = absurd (cc z)
      go Keeps (kept e f g t) z = absurd (cc z)

  -- of an operand that keeps its bytes
  pub when_kept : is_kept (action_of c d) ≡ true → (family_of c ≡ family_of d) × (family_of c ≡ 3 → ⊥) × (family_of c ≡ 4 → ⊥) × (both (not (eqb c d)) (within 1 2 (family_of c)) ≡ false)
  unfolding is_kept
  when_kept = go (action_of c d) said
    where
      go : (a : Action) → Says a → is_kept a ≡ true → (family_of c ≡ family_of d) × (family_of c ≡ 3 → ⊥) × (family_of c ≡ 4 → ⊥) × (both (not (eqb c d)) (within 1 2 (family_of c)) ≡ false)
      go OtherFamily (others n) z = absurd (cc z)
      go String (strings e f) z = absurd (cc z)
      go Addr (addrs e f) z = absurd (cc z)
      go Number (numbers e w) z = absurd (cc z)
      go Keeps (kept e f g t) z = (e, f, g, t)

pub not_kept : (a : Action) → (a ≡ Keeps → ⊥) → is_kept a ≡ false
unfolding is_kept
not_kept Keeps n = absurd (n refl)
not_kept Number n = refl
not_kept String n = refl
not_kept Addr n = refl
not_kept OtherFamily n = refl

-- an Addr's width
pub addr_width : (c : ℕ) → family_of c ≡ 4 → AddrWidth (width_of c)
unfolding width_of
addr_width c f = by_address (λ c. AddrWidth (width_of c)) c f (inl refl) (inr refl)

-- an operand has a plan, and only an operand
module _ (c d : ℕ) where
  pub some_plan : (p : Plan) → plan_of c d ≡ Some p → (c ≡ 0 → ⊥) × (p ≡ planned c d)
  some_plan p e =
      by_eqb c 0
      (λ z. absurd (let y : ◌≡◌ {A = Option Plan} None (Some p) = rw (eq-eqb c 0 z) at e in cc y))
      (λ n. (n, (let y : Some (planned c d) ≡ Some p = rw (ne_eqb c 0 n) at e in cc y)))

  pub no_plan : plan_of c d ≡ None → c ≡ 0
  no_plan e = by_eqb c 0 (λ z. z) (λ n. absurd (let y : Some (planned c d) ≡ None = rw (ne_eqb c 0 n) at e in cc y))

-- the plans of a row
pub plans_length : (row row' : List ℕ) → length (plan_row row row') ≡ length row
unfolding plan_row
plans_length [] row' = refl
plans_length (c ∷ cs) row' = ap suc (plans_length cs (drop 1 row'))

pub plan_at : (row row' : List ℕ) (j : ℕ) → get_or (plan_row row row') j None ≡ plan_of (get_or row j 0) (get_or row' j 0)
unfolding plan_row
plan_at [] row' j = refl
plan_at (c ∷ cs) row' zero = refl
plan_at (c ∷ cs) row' (suc j) = let z : 1 + j ≡ suc j = omega arith in plan_at cs (drop 1 row') j ∙ ap (plan_of (get_or cs j 0)) (get_or-drop 1 row' j 0 ∙ ap (λ (n : ℕ). get_or row' n 0) z)

-- the plan of operand j
abbrev pub PlanMade : List ℕ → List ℕ → ℕ → Option Plan → Type 0
PlanMade row row' j plan = plan ≡ plan_of (get_or row j 0) (get_or row' j 0)

-- eight are all
pub all_made : (row row' : List ℕ) (plans : List (Option Plan)) (j : ℕ) → Filled None (PlanMade row row') 8 plans j → 8 ≤ j → length row ≡ 8 → length row' ≡ 8 → RowPlanned row row' plans
all_made row row' plans j g h l l' = record {
  are = ext_get_or None plans (plan_row row row') (g.many ∙ sym (plans_length row row' ∙ l)) (λ k b. g.made k (omega (arith, g.many)) ∙ sym (plan_at row row' k));
  size = l;
  size' = l';
}

-- the plans of an opcode
abbrev pub OpcodePlanned : List (List ℕ) → List (List ℕ) → List OpcodeRow → ℕ → List (Option Plan) → Type 0
OpcodePlanned types types₂ rows op plans = RowPlanned (get_or types op []) (get_or types₂ (get_or rows op empty).opcode []) plans
