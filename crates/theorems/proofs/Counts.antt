-- Different numbers of a list that pass a test: a test that fewer pass counts no more. Assumes nothing.
use mathlib.Core.Path.{◌≡◌, refl, ap, sym, ◌∙◌}
use mathlib.Core.Bool.{Bool, true, false}
use mathlib.Core.List.{List, [], ◌∷◌}
use Prim.Native.Nat.{ℕ, suc, ◌≤◌, ◌<◌}
use native.Mathlib.Omega.{arith}
use lib.Dec.{eqb}
use borrow.Author.Tests.{eqb-true}
use Rattle.lists.specs.Choice.{pick}
use Rattle.lists.proofs.Tests.{by_test, true_not_false}
use Rattle.spec_sheet.proofs.NameTextLaws.{either_cases}
use Rattle.spec_listing.specs.Labels.{among, different}

-- how many different numbers pass a test
unfoldable pub passing : (ℕ → Bool) → List ℕ → ℕ
passing p [] = 0
passing p (y ∷ ys) = pick (p y) (pick (among y ys) (passing p ys) (suc (passing p ys))) (passing p ys)

-- all of them
pub passing_all : (ys : List ℕ) → passing (λ y. true) ys ≡ different ys
unfolding passing different
passing_all [] = refl
passing_all (y ∷ ys) = rw (passing_all ys)

-- a number in front: one that does not pass, one that stands behind too, a new one
module _ (p : ℕ → Bool) (y : ℕ) (ys : List ℕ) where
  passing_out : p y ≡ false → passing p (y ∷ ys) ≡ passing p ys
  unfolding passing
  passing_out e = rw e

  passing_again : among y ys ≡ true → passing p (y ∷ ys) ≡ passing p ys
  unfolding passing
  passing_again e = by_test (p y) (λ h. rw (h, e)) (λ h. rw h)

  passing_new : p y ≡ true → among y ys ≡ false → passing p (y ∷ ys) ≡ suc (passing p ys)
  unfolding passing
  passing_new h e = rw (h, e)

  passing_grows : passing p ys ≤ passing p (y ∷ ys)
  passing_grows =
      by_test (among y ys) (λ e. omega (arith, passing_again e))
      (λ e. by_test (p y) (λ h. omega (arith, passing_new h e)) (λ h. omega (arith, passing_out h)))

module _ (p q : ℕ → Bool) (wider : (y : ℕ) → p y ≡ true → q y ≡ true) where
  -- a wider test counts as many or more
  pub passing_most : (ys : List ℕ) → passing p ys ≤ passing q ys
  unfolding passing
  passing_most [] = omega arith
  passing_most (y ∷ ys) =
      by_test (among y ys) (λ e. omega (arith, passing_again p y ys e, passing_again q y ys e, passing_most ys))
      (λ e. by_test (p y)
      (λ h. omega (arith, passing_new p y ys h e, passing_new q y ys (wider y h) e, passing_most ys))
      (λ h. omega (arith, passing_out p y ys h, passing_grows q y ys, passing_most ys)))

  -- a number that only the wider test passes counts one more
  module _ (x : ℕ) (out : p x ≡ false) (Within-wider : q x ≡ true) where
    here_more : (y : ℕ) (ys : List ℕ) → x ≡ y → among y ys ≡ false → passing p (y ∷ ys) < passing q (y ∷ ys)
    here_more y ys z e =
        omega (arith, passing_out p y ys (ap p (sym z) ∙ out), passing_new q y ys (ap q (sym z) ∙ Within-wider) e, passing_most ys)

    pub passing_more : (ys : List ℕ) → among x ys ≡ true → passing p ys < passing q ys
    unfolding among
    passing_more [] e = true_not_false false e refl
    passing_more (y ∷ ys) e =
        by_test (among x ys)
        (λ h. by_test (among y ys) (λ a. omega (arith, passing_again p y ys a, passing_again q y ys a, passing_more ys h))
        (λ a. by_test (p y)
        (λ k. omega (arith, passing_new p y ys k a, passing_new q y ys (wider y k) a, passing_more ys h))
        (λ k. omega (arith, passing_out p y ys k, passing_grows q y ys, passing_more ys h))))
        (λ h. either_cases (eqb x y) (among x ys) e
        (λ z. here_more y ys (eqb-true x y z) (ap (λ (w : ℕ). among w ys) (sym (eqb-true x y z)) ∙ h))
        (λ a. true_not_false (among x ys) a h))
