-- What stands for a number in a word. Assumes nothing.
use mathlib.Core.Path.{◌≡◌, refl, ap}
use Prim.Native.Nat.{ℕ, zero, suc, ◌-◌}
use native.Mathlib.Omega.{arith}
use Rattle.std.specs.Prelude.{None, Some}
use lib.Dec.{ltb}
use lib.ListN.{length, get_or}
use Rattle.std.specs.Prelude.{Ok, Err}
use Rattle.answers.specs.declared.refusal.OperandFault.TheVariants.{Text, Address}
use mathlib.Core.Bool.{true}
use mathlib.Core.List.{List}
use borrow.Author.Tests.{eq-eqb, ne_eqb}
use Rattle.carry.specs.NewBits.{NewBits, number_into, mark_into, id_into, distance_into, address_into}
use Rattle.carry.specs.Marks.{marked}

pub none_marked : (m : ℕ) → m ≡ 0 → None ≡ marked m
unfolding marked
none_marked zero e = refl
none_marked (suc n) e = absurd (omega arith)

pub some_marked : (m : ℕ) → (m ≡ 0 → ⊥) → Some (m - 1) ≡ marked m
unfolding marked
some_marked zero n = absurd (n refl)
some_marked (suc k) n = ap Some (let z : suc k - 1 ≡ k = omega arith in z)

pub mark_none : (m : ℕ) → marked m ≡ None → m ≡ 0
unfolding marked
mark_none zero e = refl
mark_none (suc n) e = absurd (cc e)

pub mark_some : (m k : ℕ) → marked m ≡ Some k → m ≡ suc k
unfolding marked
mark_some zero k e = absurd (cc e)
mark_some (suc n) k e = ap suc (cc e)

-- an id by what stands for it
module _ (w id : ℕ) (ids : List ℕ) (h : ltb id (length ids) ≡ true) where
  pub id_text : marked (get_or ids id 0) ≡ None → Err Text ≡ id_into w id ids
  unfolding mark_into
  id_text e = rw (h, mark_none _ e)

  pub id_new : (k : ℕ) → marked (get_or ids id 0) ≡ Some k → number_into w k ≡ id_into w id ids
  unfolding mark_into
  id_new k e = rw (h, mark_some _ k e)

-- and a place
module _ (w at mark : ℕ) where
  pub no_address : marked mark ≡ None → ◌≡◌ {A = NewBits} (Err Address) (address_into w at mark)
  no_address e = rw (eq-eqb mark 0 (mark_none mark e))

  pub some_address : (place : ℕ) → marked mark ≡ Some place → ◌≡◌ {A = NewBits} (Ok (distance_into w at place)) (address_into w at mark)
  some_address place e =
      let m = mark_some mark place e in
      let z : mark - 1 ≡ place = omega (arith, m) in
      rw (ne_eqb mark 0 (λ n. omega (arith, m, n)), z)
