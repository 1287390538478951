-- Laws of a line that is skipped and of a label's line. Assumes nothing.
use mathlib.Core.Path.{◌≡◌, refl, sym, ◌∙◌}
use mathlib.Core.Bool.{Bool, true, false}
use Prim.Native.Nat.{ℕ, ◌-◌, ◌<◌}
use native.Mathlib.Omega.{arith}
use mathlib.Core.List.{List, [], ◌∷◌}
use borrow.Author.Tests.{eq-eqb, ne_eqb}
use lib.Dec.{eqb}
use lib.ListN.{length, get_or}
use Rattle.lists.specs.Choice.{either}
use Rattle.lists.specs.Scan.{all, opens, part}
use Rattle.lists.specs.Text.{text}
use Rattle.lists.proofs.Links.{opens_starts, all_list}
use Rattle.lists.proofs.Tests.{by_eqb, both_no_right, both_no_left}
use Rattle.spec_sheet.specs.Scan.{is_digit}
use Rattle.spec_hasm.specs.Line.{is_skipped, is_label}
use Rattle.hasm_read.proofs.PartLaws.{drop_take}

-- a list does not open with a text of another first element
opens_first : (a : ℕ) (p s : List ℕ) → (get_or s 0 0 ≡ a → ⊥) → opens (a ∷ p) s ≡ false
unfolding opens
opens_first a p [] h = refl
opens_first a p (b ∷ s) h = rw (ne_eqb a b (λ e. h (sym e)))

either_false : (b : Bool) → either b false ≡ b
either_false true = refl
either_false false = refl

pub skip_empty : (s : List ℕ) → length s ≡ 0 → is_skipped s ≡ true
unfolding is_skipped
skip_empty s e = rw (eq-eqb (length s) 0 e)

-- a line that is not skipped is not empty
pub kept_not_empty : (s : List ℕ) → is_skipped s ≡ false → 0 < length s
kept_not_empty s e =
    by_eqb (length s) 0 (λ z. absurd (let q : ◌≡◌ {A = ℕ} 0 1 = cc (sym (skip_empty s z) ∙ e) in omega arith)) (λ n. omega (arith, n))

-- by the first byte of a line that is not empty
module _ (s : List ℕ) (n : length s ≡ 0 → ⊥) where
  no_function : (get_or s 0 0 ≡ 102 → ⊥) → opens (text "function ") s ≡ false
  unfolding text
  no_function h = opens_first 102 _ s h

  no_note : (get_or s 0 0 ≡ 59 → ⊥) → opens (text "; ") s ≡ false
  unfolding text
  no_note h = opens_first 59 _ s h

  no_banner : (get_or s 0 0 ≡ 70 → ⊥) → opens (text "Function") s ≡ false
  unfolding text
  no_banner h = opens_first 70 _ s h

  pub skip_other : (get_or s 0 0 ≡ 102 → ⊥) → (get_or s 0 0 ≡ 59 → ⊥) → (get_or s 0 0 ≡ 70 → ⊥) → is_skipped s ≡ false
  unfolding is_skipped
  skip_other f g h = rw (ne_eqb (length s) 0 n, no_function f, no_note g, no_banner h)

  pub skip_banner : get_or s 0 0 ≡ 70 → is_skipped s ≡ opens (text "Function") s
  unfolding is_skipped
  skip_banner e = rw (ne_eqb (length s) 0 n, no_function (λ q. absurd (omega (arith, e, q))), no_note (λ q. absurd (omega (arith, e, q))))

  pub skip_note : get_or s 0 0 ≡ 59 → is_skipped s ≡ opens (text "; ") s
  unfolding is_skipped
  skip_note e =
      rw (ne_eqb (length s) 0 n, no_function (λ q. absurd (omega (arith, e, q))), no_banner (λ q. absurd (omega (arith, e, q))))
      (either_false (opens (text "; ") s))

  pub skip_function : get_or s 0 0 ≡ 102 → is_skipped s ≡ opens (text "function ") s
  unfolding is_skipped
  skip_function e =
      rw (ne_eqb (length s) 0 n, no_note (λ q. absurd (omega (arith, e, q))), no_banner (λ q. absurd (omega (arith, e, q))))
      (either_false (opens (text "function ") s))

-- a label's line has its first and its last byte
pub label_short : (s : List ℕ) → length s < 2 → is_label s ≡ false
unfolding is_label
label_short [] h = refl
label_short (a ∷ []) h =
    by_eqb a 76 (λ e. both_no_right (eqb a 76) _ (both_no_left (eqb a 58) _ (ne_eqb a 58 (λ q. absurd (omega (arith, e, q)))))) (λ n. both_no_left (eqb a 76) _ (ne_eqb a 76 n))
label_short (a ∷ b ∷ s) h = absurd (omega arith)

module _ (s : List ℕ) where
  pub label_first : (get_or s 0 0 ≡ 76 → ⊥) → is_label s ≡ false
  unfolding is_label
  label_first n = rw (ne_eqb (get_or s 0 0) 76 n)

  pub label_last : get_or s 0 0 ≡ 76 → (get_or s (length s - 1) 0 ≡ 58 → ⊥) → is_label s ≡ false
  unfolding is_label
  label_last e n = rw (eq-eqb (get_or s 0 0) 76 e, ne_eqb (get_or s (length s - 1) 0) 58 n)

  pub label_digits : get_or s 0 0 ≡ 76 → get_or s (length s - 1) 0 ≡ 58 → is_label s ≡ all is_digit (part s 1 (length s - 1 - 1))
  unfolding is_label
  label_digits e f = rw (eq-eqb (get_or s 0 0) 76 e, eq-eqb (get_or s (length s - 1) 0) 58 f, drop_take 1 (length s - 1) s)

-- for the tests of a line
pub ruleset skip_laws = (opens_starts, skip_empty, skip_function, skip_note, skip_banner, skip_other)

pub ruleset label_laws = (all_list, label_short, label_first, label_last, label_digits)
