-- A text of bytes that stand for themselves is its own escape. Assumes nothing.
use mathlib.Core.Path.{◌≡◌, refl, ap, ◌∙◌}
use mathlib.Core.Bool.{true, not}
use mathlib.Core.List.{List, [], ◌∷◌}
use Prim.Native.Nat.{ℕ}
use native.Mathlib.Omega.{arith}
use lib.Dec.{eqb}
use borrow.Author.Tests.{lt-ltb, not-true, eqb-false}
use Rattle.lists.specs.Choice.{both, within}
use Rattle.lists.specs.Scan.{all}
use Rattle.lists.proofs.Tests.{both_left, both_right, within_least, within_most}
use Rattle.lists.proofs.Scans.{all_weaken}
use Rattle.spec_strings.specs.Escape.{escape, escape_all, escape_text}
use Rattle.spec_strings.proofs.EscapeLaws.{escape_shown}
use Rattle.spec_strings.proofs.Utf8Laws.{ascii, ascii_chars}
use Rattle.strings.specs.Turns.{bare}

module _ (b : ℕ) (h : bare b ≡ true) where
  shown : within 32 126 b ≡ true
  unfolding bare
  shown = both_right (not (eqb b 92)) (within 32 126 b) (both_right (not (eqb b 34)) (both (not (eqb b 92)) (within 32 126 b)) h)

  pub bare_ascii : ascii b ≡ true
  bare_ascii = lt-ltb b 128 (omega (arith, within_most 32 126 b shown))

  bare_escape : escape b ≡ b ∷ []
  unfolding bare
  bare_escape =
      escape_shown b (within_least 32 126 b shown) (within_most 32 126 b shown) (eqb-false b 34 (not-true (eqb b 34) (both_left (not (eqb b 34)) (both (not (eqb b 92)) (within 32 126 b)) h)))
      (eqb-false b 92 (not-true (eqb b 92) (both_left (not (eqb b 92)) (within 32 126 b) (both_right (not (eqb b 34)) (both (not (eqb b 92)) (within 32 126 b)) h))))

bare_all : (s : List ℕ) → all bare s ≡ true → escape_all s ≡ s
unfolding escape_all all
bare_all [] h = refl
bare_all (b ∷ s) h = rw (bare_escape b (both_left (bare b) (all bare s) h), bare_all s (both_right (bare b) (all bare s) h)) refl

pub bare_text : (s : List ℕ) → all bare s ≡ true → escape_text s ≡ s
unfolding escape_text
bare_text s h = ap escape_all (ascii_chars s (all_weaken bare ascii bare_ascii s h)) ∙ bare_all s h
