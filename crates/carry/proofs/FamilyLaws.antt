-- What is done with an operand, by the family of its type. Assumes nothing.
use mathlib.Core.Path.{◌≡◌, ap, sym, ◌∙◌}
use mathlib.Core.Bool.{true}
use mathlib.Core.Logic.{◌⊎◌}
use mathlib.Core.Logic.◌⊎◌.{inl, inr}
use Prim.Native.Nat.{ℕ}
use lib.Dec.{eqb}
use borrow.Author.Tests.{eq-eqb, ne_eqb}
use Rattle.lists.specs.Choice.{pick}
use Rattle.lists.proofs.Tests.{by_test}
use Rattle.spec_sheet.specs.Types.{family_of}
use Rattle.sheet.specs.Families.{family_number}
use Rattle.sheet.specs.declared.family.Family.{Family}
use Rattle.sheet.specs.declared.family.Family.TheVariants as family
use Rattle.sheet.proofs.FamilyLaws.{same_family}
use Rattle.carry.specs.Plans.{action_of}
use Rattle.carry.specs.declared.plans.Action.{Action}
use Rattle.carry.specs.declared.plans.Action.TheVariants.{Keeps, Number, String, Addr, OtherFamily}

module _ (c d : ℕ) where
  -- where both types have this family
  unfoldable pub in_family : Family → Action
  in_family family.NoOperand = Keeps
  in_family family.Reg = pick (eqb c d) Keeps Number
  in_family family.UInt = pick (eqb c d) Keeps Number
  in_family family.Str = String
  in_family family.Addr = Addr
  in_family family.Imm32 = Keeps
  in_family family.Double = Keeps

  module _ (f g : Family) (e : family_number f ≡ family_of c) (h : family_number g ≡ family_of d) where
    pub two_families : (f ≡ g → ⊥) → OtherFamily ≡ action_of c d
    unfolding action_of
    two_families n = rw (ne_eqb (family_of c) (family_of d) (λ q. n (same_family f g (e ∙ (q ∙ sym h)))))

    pub one_family : f ≡ g → in_family f ≡ action_of c d
    unfolding in_family action_of family_number
    one_family s = go f e
      where
        same : eqb (family_of c) (family_of d) ≡ true
        same = eq-eqb (family_of c) (family_of d) (sym e ∙ (ap family_number s ∙ h))

        go : (f : Family) → family_number f ≡ family_of c → in_family f ≡ action_of c d
        go family.NoOperand e = rw (same, sym e) (by_test (eqb c d) (λ t. rw t) (λ t. rw t))
        go family.Reg e = rw (same, sym e) (by_test (eqb c d) (λ t. rw t) (λ t. rw t))
        go family.UInt e = rw (same, sym e) (by_test (eqb c d) (λ t. rw t) (λ t. rw t))
        go family.Str e = rw (same, sym e)
        go family.Addr e = rw (same, sym e)
        go family.Imm32 e = rw (same, sym e) (by_test (eqb c d) (λ t. rw t) (λ t. rw t))
        go family.Double e = rw (same, sym e) (by_test (eqb c d) (λ t. rw t) (λ t. rw t))

  pub numbers_same : (f : Family) → (f ≡ family.Reg) ⊎ (f ≡ family.UInt) → c ≡ d → in_family f ≡ Keeps
  unfolding in_family
  numbers_same f (inl e) q = rw (e, eq-eqb c d q)
  numbers_same f (inr e) q = rw (e, eq-eqb c d q)

  pub numbers_differ : (f : Family) → (f ≡ family.Reg) ⊎ (f ≡ family.UInt) → (c ≡ d → ⊥) → in_family f ≡ Number
  unfolding in_family
  numbers_differ f (inl e) n = rw (e, ne_eqb c d n)
  numbers_differ f (inr e) n = rw (e, ne_eqb c d n)

  pub keeps_others : (f : Family) → (f ≡ family.NoOperand) ⊎ ((f ≡ family.Imm32) ⊎ (f ≡ family.Double)) → in_family f ≡ Keeps
  unfolding in_family
  keeps_others f (inl e) = rw e
  keeps_others f (inr (inl e)) = rw e
  keeps_others f (inr (inr e)) = rw e
