-- Laws of scans, at an index and over joined lists. Assumes nothing.
use mathlib.Core.Path.{◌≡◌, refl, ap, sym, ◌∙◌}
use mathlib.Core.Bool.{Bool, true, false}
use Prim.Native.Nat.{ℕ, zero, suc, ◌+◌, ◌≤◌, ◌<◌}
use native.Mathlib.Numerals.{add-one}
use native.Mathlib.Omega.{arith}
use mathlib.Core.List.{List, [], ◌∷◌, ◌++◌}
use borrow.Author.Tests.{eq-eqb, ne_eqb, eqb-true}
use lib.Dec.{eqb, eqb-suc-zero}
use lib.ListN.{length, drop, get_or, drop_of_length-le}
use lib.Seq.{drop-cons}
use Rattle.lists.specs.Scan.{run, all, same, opens}
use Rattle.lists.specs.Choice.{pick}
use Rattle.lists.proofs.Tests.{both_left, both_right, both_yes, both_no_right, true_not_false, by_test}

module _ (p : ℕ → Bool) where
  pub run_cons_go : (b : ℕ) (s : List ℕ) → p b ≡ true → run p (b ∷ s) ≡ suc (run p s)
  unfolding run
  run_cons_go b s e = rw (e, run)

  pub run_cons_stop : (b : ℕ) (s : List ℕ) → p b ≡ false → run p (b ∷ s) ≡ 0
  unfolding run
  run_cons_stop b s e = rw (e, run)

  pub run_le : (s : List ℕ) → run p s ≤ length s
  unfolding run
  run_le [] = omega arith
  run_le (b ∷ s) = go (run_le s) (p b)
    where
      go : run p s ≤ length s → (f : Bool) → elim f as (λ x. ℕ) [ true ↦ suc (run p s) | false ↦ 0 ] ≤ suc (length s)
      go ih true = omega arith
      go ih false = omega arith

  -- what a loop's invariant steps by
  module _ (s : List ℕ) (i : ℕ) where
    pub run_end : length s ≤ i → i + run p (drop i s) ≡ i
    unfolding run
    run_end h = rw (drop_of_length-le s h) (omega arith)

    pub run_stop : i < length s → p (get_or s i 0) ≡ false → i + run p (drop i s) ≡ i
    run_stop h e = rw (drop-cons s i 0 h, run_cons_stop _ _ e) (omega arith)

    pub run_go : i < length s → p (get_or s i 0) ≡ true → i + run p (drop i s) ≡ i + 1 + run p (drop (i + 1) s)
    run_go h e = rw (add-one, drop-cons s i 0 h, run_cons_go _ _ e) (omega arith)

  -- a run that the element behind it ends, and one that nothing ends
  pub run_stops : (s : List ℕ) (b : ℕ) (t : List ℕ) → all p s ≡ true → p b ≡ false → run p (s ++ b ∷ t) ≡ length s
  unfolding all
  run_stops [] b t e f = run_cons_stop b t f
  run_stops (a ∷ s) b t e f =
      run_cons_go a (s ++ b ∷ t) (both_left (p a) (all p s) e) ∙ ap suc (run_stops s b t (both_right (p a) (all p s) e) f)

  pub run_all : (s : List ℕ) → all p s ≡ true → run p s ≡ length s
  unfolding all run
  run_all [] e = refl
  run_all (a ∷ s) e = run_cons_go a s (both_left (p a) (all p s) e) ∙ ap suc (run_all s (both_right (p a) (all p s) e))

  pub all_append : (s t : List ℕ) → all p s ≡ true → all p t ≡ true → all p (s ++ t) ≡ true
  unfolding all
  all_append [] t e f = f
  all_append (a ∷ s) t e f =
      both_yes (p a) (all p (s ++ t)) (both_left (p a) (all p s) e) (all_append s t (both_right (p a) (all p s) e) f)

-- every element passes, from an index on
module _ (p : ℕ → Bool) (s : List ℕ) (i : ℕ) where
  -- an element passes
  pub all_go : i < length s → p (get_or s i 0) ≡ true → all p (drop i s) ≡ all p (drop (i + 1) s)
  unfolding all
  all_go h e = rw (add-one i, drop-cons s i 0 h, e)

  -- an element does not
  pub all_stop : i < length s → p (get_or s i 0) ≡ false → all p (drop i s) ≡ false
  unfolding all
  all_stop h e = rw (drop-cons s i 0 h, e)

  -- at the end
  pub all_end : length s ≤ i → all p (drop i s) ≡ true
  unfolding all
  all_end h = rw (drop_of_length-le s h)

-- `same` is equality
pub same_refl : (s : List ℕ) → same s s ≡ true
unfolding same
same_refl [] = refl
same_refl (a ∷ s) = both_yes (eqb a a) (same s s) (eq-eqb a a refl) (same_refl s)

pub same_eq : (s t : List ℕ) → same s t ≡ true → s ≡ t
unfolding same
same_eq [] [] e = refl
same_eq [] (b ∷ t) e = true_not_false false e refl
same_eq (a ∷ s) [] e = true_not_false false e refl
same_eq (a ∷ s) (b ∷ t) e =
    let h : a ≡ b = eqb-true a b (both_left (eqb a b) (same s t) e) in
    let k : s ≡ t = same_eq s t (both_right (eqb a b) (same s t) e) in
    rw (h, k)

-- a list that opens with another opens with it whatever comes behind
pub opens_append : (p s : List ℕ) → opens p (p ++ s) ≡ true
unfolding opens
opens_append [] s = refl
opens_append (a ∷ p) s = both_yes (eqb a a) (opens p (p ++ s)) (eq-eqb a a refl) (opens_append p s)

pub opens_split : (p s : List ℕ) → opens p s ≡ true → s ≡ p ++ drop (length p) s
unfolding opens
opens_split [] s e = refl
opens_split (a ∷ p) [] e = true_not_false false e refl
opens_split (a ∷ p) (b ∷ s) e =
    let h : a ≡ b = eqb-true a b (both_left (eqb a b) (opens p s) e) in
    rw h (ap (λ (l : List ℕ). b ∷ l) (opens_split p s (both_right (eqb a b) (opens p s) e)))

-- comparing from an index on: both at their end, equal elements, different elements, different lengths
pub same_end : (s t : List ℕ) (i : ℕ) → length s ≤ i → length t ≤ i → same (drop i s) (drop i t) ≡ true
unfolding same
same_end s t i h k = rw (drop_of_length-le s h, drop_of_length-le t k)

pub same_go : (s t : List ℕ) (i : ℕ) → i < length s → i < length t → get_or s i 0 ≡ get_or t i 0
    → same (drop i s) (drop i t) ≡ same (drop (i + 1) s) (drop (i + 1) t)
unfolding same
same_go s t i h k e = rw (add-one, drop-cons s i 0 h, drop-cons t i 0 k, eq-eqb _ _ e)

pub same_stop : (s t : List ℕ) (i : ℕ) → i < length s → i < length t → (get_or s i 0 ≡ get_or t i 0 → ⊥) → same (drop i s) (drop i t) ≡ false
unfolding same
same_stop s t i h k e = rw (drop-cons s i 0 h, drop-cons t i 0 k, ne_eqb _ _ e)

pub same_lengths : (s t : List ℕ) → (length s ≡ length t → ⊥) → same s t ≡ false
unfolding same
same_lengths [] [] e = absurd (e refl)
same_lengths [] (b ∷ t) e = refl
same_lengths (a ∷ s) [] e = refl
same_lengths (a ∷ s) (b ∷ t) e = both_no_right (eqb a b) (same s t) (same_lengths s t (λ h. e (ap suc h)))

pub opens_end : (p s : List ℕ) (i : ℕ) → length p ≤ i → opens (drop i p) s ≡ true
unfolding opens
opens_end p s i h = rw (drop_of_length-le p h)

pub opens_go : (p s : List ℕ) (i k : ℕ) → i < length p → k < length s → get_or s k 0 ≡ get_or p i 0
    → opens (drop i p) (drop k s) ≡ opens (drop (i + 1) p) (drop (k + 1) s)
unfolding opens
opens_go p s i k h l e = rw (add-one i, add-one k, drop-cons p i 0 h, drop-cons s k 0 l, eq-eqb _ _ (sym e))

pub opens_stop : (p s : List ℕ) (i k : ℕ) → i < length p → k < length s → (get_or s k 0 ≡ get_or p i 0 → ⊥) → opens (drop i p) (drop k s) ≡ false
unfolding opens
opens_stop p s i k h l e = rw (drop-cons p i 0 h, drop-cons s k 0 l, ne_eqb _ _ (λ q. e (sym q)))

pub opens_short : (p s : List ℕ) → length s < length p → opens p s ≡ false
unfolding opens
opens_short [] s h = absurd (omega arith)
opens_short (a ∷ p) [] h = refl
opens_short (a ∷ p) (b ∷ s) h = both_no_right (eqb a b) (opens p s) (opens_short p s (omega arith))

-- behind the end of a list only the empty list opens it
pub opens_past : (p s : List ℕ) (at : ℕ) → length s < at → opens p (drop at s) ≡ eqb (length p) 0
unfolding opens
opens_past [] s at h = refl
opens_past (a ∷ p) s at h =
    let k : length s ≤ at = omega arith in
    rw (drop_of_length-le s k, eqb-suc-zero (length p))

-- what opens a list is no longer than it
pub opens_length : (p s : List ℕ) → opens p s ≡ true → length p ≤ length s
unfolding opens
opens_length [] s e = omega arith
opens_length (a ∷ p) [] e = true_not_false false e refl
opens_length (a ∷ p) (b ∷ s) e = omega (arith, opens_length p s (both_right (eqb a b) (opens p s) e))

-- what passes for every element and the default passes at every index, inside or behind the end
pub all_at : (p : ℕ → Bool) (s : List ℕ) (d : ℕ) → all p s ≡ true → p d ≡ true → (i : ℕ) → p (get_or s i d) ≡ true
unfolding all
all_at p [] d e f zero = f
all_at p [] d e f (suc i) = f
all_at p (a ∷ s) d e f zero = both_left (p a) (all p s) e
all_at p (a ∷ s) d e f (suc i) = all_at p s d (both_right (p a) (all p s) e) f i

-- one element more
pub all_cons : (p : ℕ → Bool) (b : ℕ) (s : List ℕ) → p b ≡ true → all p s ≡ true → all p (b ∷ s) ≡ true
unfolding all
all_cons p b s e f = both_yes (p b) (all p s) e f

-- what passes one test passes another that asks no more
pub all_weaken : (p q : ℕ → Bool) → ((b : ℕ) → p b ≡ true → q b ≡ true) → (s : List ℕ) → all p s ≡ true → all q s ≡ true
unfolding all
all_weaken p q f [] e = refl
all_weaken p q f (b ∷ s) e =
    both_yes (q b) (all q s) (f b (both_left (p b) (all p s) e)) (all_weaken p q f s (both_right (p b) (all p s) e))

-- one of two lists that both pass
pub all_pick : (p : ℕ → Bool) (t : Bool) (a b : List ℕ) → all p a ≡ true → all p b ≡ true → all p (pick t a b) ≡ true
all_pick p true a b e f = e
all_pick p false a b e f = f

-- what opens a list passes the tests that all of the list passes
pub opens_all : (q : ℕ → Bool) (p s : List ℕ) → all q s ≡ true → opens p s ≡ true → all q p ≡ true
unfolding opens all
opens_all q [] s e o = refl
opens_all q (a ∷ p) [] e o = true_not_false false o refl
opens_all q (a ∷ p) (b ∷ s) e o =
    let h : a ≡ b = eqb-true a b (both_left (eqb a b) (opens p s) o) in
    both_yes (q a) (all q p) (rw h (both_left (q b) (all q s) e)) (opens_all q p s (both_right (q b) (all q s) e) (both_right (eqb a b) (opens p s) o))

-- so a list with an element that does not pass opens no such list
pub opens_not : (q : ℕ → Bool) (p s : List ℕ) → all q s ≡ true → all q p ≡ false → opens p s ≡ false
opens_not q p s e n = by_test (opens p s) (λ o. true_not_false (all q p) (opens_all q p s e o) n) (λ o. o)
