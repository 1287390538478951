-- Laws of the check of a text's lines. Assumes nothing.
use mathlib.Core.Path.{◌≡◌, refl, ◌∙◌}
use mathlib.Core.Bool.{true, false}
use Prim.Native.Nat.{ℕ, zero, suc, ◌+◌, ◌≤◌, ◌<◌}
use native.Mathlib.Numerals.{add-one}
use native.Mathlib.Omega.{arith}
use mathlib.Core.List.{List, [], ◌∷◌}
use borrow.Author.Tests.{lt-ltb, le-ltb, ltb-false}
use lib.Dec.{ltb}
use lib.ListN.{length, drop, get_or}
use Rattle.lists.specs.Scan.{run, all}
use Rattle.lists.proofs.Tests.{by_test}
use Rattle.limits.specs.Limits.{line_limit}
use Rattle.spec_hasm.specs.Text.{lines_of}
use Rattle.spec_hasm.specs.Assemble.{Assembled, is_text_byte, unless_bad_line}
use Rattle.spec_hasm.specs.Assemble.Assembled.{assembled, not_assembled}
use Rattle.answers.specs.declared.refusal.Refusal.{Refusal}
use Rattle.answers.specs.declared.refusal.Refusal.TheVariants.{BadByte, LongLine}
use Rattle.hasm_read.specs.Lines.{not_feed, line_in, ShortLines}
use Rattle.hasm_read.proofs.LineLaws.{line_next, lines_none}

-- line n is too long; it has a byte that is no text; it is good
module _ (n : ℕ) (l : List ℕ) (ls : List (List ℕ)) (rest : Assembled) where
  check_long : line_limit < length l → unless_bad_line n (l ∷ ls) rest ≡ not_assembled (LongLine n)
  unfolding unless_bad_line
  check_long h = rw (lt-ltb line_limit (length l) h)

  check_bad : length l ≤ line_limit → all is_text_byte l ≡ false → unless_bad_line n (l ∷ ls) rest ≡ not_assembled (BadByte n)
  unfolding unless_bad_line
  check_bad h e = rw (le-ltb line_limit (length l) h, e)

  check_good : length l ≤ line_limit → all is_text_byte l ≡ true → unless_bad_line n (l ∷ ls) rest ≡ unless_bad_line (n + 1) ls rest
  unfolding unless_bad_line
  check_good h e = rw (le-ltb line_limit (length l) h, e, add-one n)

-- the check of a text s is that of the lines from `at` on, the first of which is line n
pub record Going (s : List ℕ) (at n : ℕ) : Type 0 where
  pub near : at ≤ length s + 1
  pub few : n ≤ at + 1
  pub left : (rest : Assembled) → unless_bad_line 1 (lines_of s) rest ≡ unless_bad_line n (lines_of (drop at s)) rest

pub going_start : (s : List ℕ) → Going s 0 1
going_start s = record { near = omega arith; few = omega arith; left = λ rest. refl }

pub going_end : {s : List ℕ} {at n : ℕ} → Going s at n → length s ≤ at → (rest : Assembled) → unless_bad_line 1 (lines_of s) rest ≡ rest
unfolding unless_bad_line
going_end {s} {at} {n} g h rest = g.left rest ∙ rw (lines_none s at h)

-- at a line l, whose end was found
module _ (s : List ℕ) (at n end : ℕ) (l : List ℕ) (g : Going s at n) (h : at < length s) (e : end ≡ at + run not_feed (drop at s)) (f : l ≡ line_in s at end) where
  here : (rest : Assembled) → unless_bad_line 1 (lines_of s) rest ≡ unless_bad_line n (l ∷ lines_of (drop (end + 1) s)) rest
  here rest = g.left rest ∙ rw (line_next s at end h e, f)

  pub going_long : line_limit < length l → (rest : Assembled) → unless_bad_line 1 (lines_of s) rest ≡ not_assembled (LongLine n)
  going_long k rest = here rest ∙ check_long n l (lines_of (drop (end + 1) s)) rest k

  module _ (k : length l ≤ line_limit) where
    pub going_bad : all is_text_byte l ≡ false → (rest : Assembled) → unless_bad_line 1 (lines_of s) rest ≡ not_assembled (BadByte n)
    going_bad b rest = here rest ∙ check_bad n l (lines_of (drop (end + 1) s)) rest k b

    pub going_on : end ≤ length s → all is_text_byte l ≡ true → Going s (end + 1) (n + 1)
    going_on m b =
        record {
          near = omega arith;
          few = omega (arith, g.few, e);
          left = λ rest. here rest ∙ check_good n l (lines_of (drop (end + 1) s)) rest k b;
        }

no_refusal : {P : Type 0} {x : Refusal} → not_assembled x ≡ assembled [] → P
no_refusal e = absurd (let z : ◌≡◌ {A = ℕ} 0 1 = cc e in omega (arith, z))

-- lines that neither 3 nor 2 refuses: the first is short, and the others are so too
fine_here : (n : ℕ) (l : List ℕ) (ls : List (List ℕ)) → unless_bad_line n (l ∷ ls) (assembled []) ≡ assembled [] → (length l ≤ line_limit) × (unless_bad_line (suc n) ls (assembled []) ≡ assembled [])
unfolding unless_bad_line
fine_here n l ls e =
    by_test (ltb line_limit (length l))
    (λ t. no_refusal (rw t at e))
    (λ t. by_test (all is_text_byte l)
    (λ u. (ltb-false line_limit (length l) t, rw (t, u) at e))
    (λ u. no_refusal (rw (t, u) at e)))

fine_lines : (n : ℕ) (ls : List (List ℕ)) → unless_bad_line n ls (assembled []) ≡ assembled [] → (i : ℕ) → length (get_or ls i []) ≤ line_limit
fine_lines n [] e zero = omega arith
fine_lines n [] e (suc i) = omega arith
fine_lines n (l ∷ ls) e zero = (fine_here n l ls e).0
fine_lines n (l ∷ ls) e (suc i) = fine_lines (suc n) ls (fine_here n l ls e).1 i

-- a text that passes the check
pub good_short : (text : List ℕ) → ((rest : Assembled) → unless_bad_line 1 (lines_of text) rest ≡ rest) → ShortLines text
good_short text f = fine_lines 1 (lines_of text) (f (assembled []))
