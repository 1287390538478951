-- A number between two texts, as it is read step by step, and the two forms of a jump mark. Assumes nothing.
use mathlib.Core.Path.{◌≡◌, refl, ap, sym, ◌∙◌}
use mathlib.Core.Bool.{true}
use mathlib.Core.List.{List, [], ◌∷◌, ◌++◌}
use Prim.Native.Nat.{ℕ, ◌+◌}
use native.Mathlib.Omega.{arith}
use lib.ListN.{drop}
use lib.Seq.{drop-drop}
use Rattle.lists.specs.Scan.{run, opens}
use Rattle.lists.specs.Text.{text}
use Rattle.lists.proofs.Scans.{run_cons_go, opens_split}
use Rattle.spec_numbers.specs.Parse.{unsigned_value}
use Rattle.spec_numbers.specs.Parse.Parsed.{is}
use Rattle.spec_sheet.specs.Scan.{after, literal_at, is_digit, number_at, keyed_at}
use Rattle.spec_sheet.specs.Scan.Step.{next, off}
use Rattle.spec_sheet.specs.Line.{jump_at}
use Rattle.spec_sheet.proofs.ScanLaws.{number_value}

module _ (key : List ℕ) (most : ℕ) (tail s : List ℕ) (at : ℕ) where
  -- another text stands in front
  pub no_key : literal_at key s at ≡ off → keyed_at key most tail s at ≡ off
  unfolding keyed_at after
  no_key e = rw e

  -- no number follows
  pub no_number : {u a : ℕ} → literal_at key s at ≡ next u a → number_at most s a ≡ off → keyed_at key most tail s at ≡ off
  unfolding keyed_at after
  no_number e f = rw (e, f)

  -- another text stands behind
  pub no_tail : {u a v b : ℕ} → literal_at key s at ≡ next u a → number_at most s a ≡ next v b → literal_at tail s b ≡ off → keyed_at key most tail s at ≡ off
  unfolding keyed_at after
  no_tail e f g = rw (e, f, g)

-- all three are there
pub keyed_read : (key : List ℕ) (most : ℕ) (tail s : List ℕ) (at : ℕ) {u a v b w c : ℕ} → literal_at key s at ≡ next u a → number_at most s a ≡ next v b → literal_at tail s b ≡ next w c
    → keyed_at key most tail s at ≡ next v c
unfolding keyed_at after
keyed_read key most tail s at e f g = rw (e, f, g)

-- a jump mark is one digit
pub jump_form : (b v : ℕ) (s : List ℕ) (at : ℕ) → is_digit b ≡ true → unsigned_value 10 1 (b ∷ []) ≡ is v
    → opens (text " jump=" ++ (b ∷ text " types=")) (drop at s) ≡ true → jump_at s at ≡ next v (at + 14)
unfolding keyed_at after literal_at text opens run
jump_form b v s at d u o =
    let t = drop 14 (drop at s) in
    let e : drop at s ≡ text " jump=" ++ (b ∷ text " types=") ++ t = opens_split (text " jump=" ++ (b ∷ text " types=")) (drop at s) o in
    let e₆ : drop (at + 6) s ≡ b ∷ (text " types=" ++ t) = sym (drop-drop 6 at s) ∙ ap (drop 6) e in
    let e₇ : drop (at + 6 + 1) s ≡ text " types=" ++ t = sym (drop-drop 1 (at + 6) s) ∙ ap (drop 1) e₆ in
    let k : literal_at (text " jump=") s at ≡ next 0 (at + 6) = rw e in
    let r : run is_digit (drop (at + 6) s) ≡ 1 = rw e₆ (run_cons_go is_digit b (text " types=" ++ t) d) in
    let n : number_at 1 s (at + 6) ≡ next v (at + 6 + 1) = number_value s (at + 6) 1 1 v (sym r) refl (rw e₆ u) in
    let l : literal_at (text " types=") s (at + 6 + 1) ≡ next 0 (at + 6 + 1 + 7) = rw e₇ in
    let q : at + 6 + 1 + 7 ≡ at + 14 = omega arith in
    rw (k, n, l, q)
