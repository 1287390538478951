-- Laws of a name that stands in a text: its bytes, its length and how it opens. Assumes nothing.
use mathlib.Core.Path.{◌≡◌, refl, ap}
use mathlib.Core.Bool.{Bool, true, false, not}
use mathlib.Core.List.{List, [], ◌∷◌}
use Prim.Native.Nat.{ℕ, zero, suc, ◌≤◌, ◌<◌}
use native.Mathlib.Nat.{add-zero}
use native.Mathlib.Omega.{arith}
use lib.Dec.{eqb, leb}
use lib.ListN.{length, take, drop, get_or}
use lib.Seq.{drop-cons, length-take-le}
use borrow.Author.Tests.{leb-true}
use Rattle.lists.specs.Choice.{both, either}
use Rattle.lists.specs.Scan.{run, all, opens, part}
use Rattle.lists.specs.Text.{text}
use Rattle.lists.proofs.Tests.{both_left, both_right, both_yes, not-true, by_test, true_not_false}
use Rattle.lists.proofs.Parts.{part_at, inside}
use Rattle.lists.proofs.Scans.{run_le, run_cons_go}
use Rattle.spec_sheet.specs.Scan.{is_upper, is_name_byte, may_be_name}
use Rattle.spec_sheet.proofs.OpLaws.{GoodName}

-- what a run takes passes its test
pub run_all_taken : (p : ℕ → Bool) (s : List ℕ) → all p (take (run p s) s) ≡ true
unfolding run all
run_all_taken p [] = refl
run_all_taken p (b ∷ s) = go (run_all_taken p s) (p b) refl
  where
    go : all p (take (run p s) s) ≡ true → (f : Bool) → p b ≡ f → all p (take (elim f as (λ x. ℕ) [ true ↦ suc (run p s) | false ↦ 0 ]) (b ∷ s)) ≡ true
    go ih true e = both_yes (p b) (all p (take (run p s) s)) e ih
    go ih false e = refl

-- a list that opens a front opens the whole
pub opens_taken : (p : List ℕ) (n : ℕ) (s : List ℕ) → opens p (take n s) ≡ true → opens p s ≡ true
unfolding opens
opens_taken [] n s e = refl
opens_taken (a ∷ p) zero s e = true_not_false false e refl
opens_taken (a ∷ p) (suc n) [] e = e
opens_taken (a ∷ p) (suc n) (b ∷ s) e =
    both_yes (eqb a b) (opens p s) (both_left (eqb a b) (opens p (take n s)) e) (opens_taken p n s (both_right (eqb a b) (opens p (take n s)) e))

-- an upper-case letter is a name's byte
pub upper_name_byte : (b : ℕ) → is_upper b ≡ true → is_name_byte b ≡ true
unfolding is_name_byte
upper_name_byte b e = rw e

-- where every element passes a test, each does
pub all_at : (p : ℕ → Bool) (s : List ℕ) → all p s ≡ true → (i : ℕ) → i < length s → p (get_or s i 0) ≡ true
unfolding all
all_at p [] e i h = absurd (omega arith)
all_at p (b ∷ s) e zero h = both_left (p b) (all p s) e
all_at p (b ∷ s) e (suc i) h = all_at p s (both_right (p b) (all p s) e) i (omega arith)

-- one of two tests holds
pub either_cases : {P : Type 0} (a b : Bool) → either a b ≡ true → (a ≡ true → P) → (b ≡ true → P) → P
either_cases true b e f g = f refl
either_cases false b e f g = g e

module _ (s : List ℕ) (start size : ℕ) (g : GoodName s start size) where
  tests : both (leb size 48) (both (not (opens (text "Function") (drop start s))) (is_upper (get_or s start 0))) ≡ true
  unfolding may_be_name
  tests = g.may_be

  opening : both (not (opens (text "Function") (drop start s))) (is_upper (get_or s start 0)) ≡ true
  opening = both_right (leb size 48) _ tests

  first_upper : is_upper (get_or s start 0) ≡ true
  first_upper = both_right (not (opens (text "Function") (drop start s))) _ opening

  -- it has at most 48 bytes
  pub name_most : size ≤ 48
  name_most = leb-true size 48 (both_left (leb size 48) _ tests)

  start_inside : start < length s
  start_inside = inside s start (λ z. true_not_false (is_upper (get_or s start 0)) first_upper (ap is_upper z))

  -- it is not empty
  pub name_least : 1 ≤ size
  name_least =
      let q : run is_name_byte (drop start s) ≡ suc (run is_name_byte (drop (suc start) s)) =
      rw (drop-cons s start 0 start_inside) (run_cons_go is_name_byte _ _ (upper_name_byte (get_or s start 0) first_upper)) in
      omega (arith, g.run_is)

  -- it stands whole in the text
  pub name_length_lem : length (part s start size) ≡ size
  name_length_lem = length-take-le size (drop start s) (omega (arith, g.run_is, run_le is_name_byte (drop start s)))

  -- "letters, digits or underscores"
  pub name_bytes : all is_name_byte (part s start size) ≡ true
  name_bytes = rw g.run_is (run_all_taken is_name_byte (drop start s))

  -- it opens with an upper-case letter
  pub name_upper : is_upper (get_or (part s start size) 0 0) ≡ true
  name_upper = rw (part_at s start size 0 0 (omega (arith, name_least)), add-zero start) first_upper

  -- it does not open with `Function`
  pub name_no_function : opens (text "Function") (part s start size) ≡ false
  name_no_function =
      by_test (opens (text "Function") (part s start size))
      (λ e. true_not_false (opens (text "Function") (drop start s)) (opens_taken (text "Function") size (drop start s) e)
      (not-true _ (both_left (not (opens (text "Function") (drop start s))) _ opening)))
      (λ e. e)

-- a name by itself, away from the text that it stands in
pub record NameText (name : List ℕ) : Type 0 where
  pub bytes : all is_name_byte name ≡ true
  pub least : 1 ≤ length name
  pub most : length name ≤ 48
  pub upper : is_upper (get_or name 0 0) ≡ true
  pub no_function : opens (text "Function") name ≡ false

-- a name that stands in a text is one
pub name_text : (s : List ℕ) (start size : ℕ) → GoodName s start size → NameText (part s start size)
name_text s start size g =
    let e = name_length_lem s start size g in
    record {
      bytes = name_bytes s start size g;
      least = omega (arith, name_least s start size g);
      most = omega (arith, name_most s start size g);
      upper = name_upper s start size g;
      no_function = name_no_function s start size g;
    }

-- "<invalid>", which is written for a gap, is no name
pub invalid_no_name : NameText (text "<invalid>") → ⊥
unfolding text
invalid_no_name n = true_not_false false n.upper refl

-- so no name is that
pub name_not_invalid : (name : List ℕ) → NameText name → name ≡ text "<invalid>" → ⊥
name_not_invalid name n e = invalid_no_name (rw e at n)
