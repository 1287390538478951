-- The first operand of what is left of a text, and those behind it. Assumes nothing.
use mathlib.Core.Path.{◌≡◌, refl, ap, sym}
use Prim.Native.Nat.{ℕ, ◌+◌, ◌-◌, ◌≤◌, min}
use native.Mathlib.Omega.{arith}
use mathlib.Core.List.{List, [], ◌∷◌}
use lib.ListN.{length, drop, get_or, drop_of_length-le, length-take, length-drop}
use Rattle.lists.specs.Scan.{run, part}
use Rattle.lists.proofs.Parts.{part_rest}
use Rattle.lists.proofs.Tests.{by_eqb, by_leb}
use Rattle.spec_hasm.specs.Text.{is_white, solid_length, trim_start, trim}
use Rattle.spec_hasm.specs.Split.{split_outside, tokens}
use Rattle.hasm_read.specs.Commas.{comma_at, comma_outside}
use Rattle.hasm_read.proofs.OperandLaws.{tokens_blank, operand_comma, operand_blank, operand_last}

-- nothing is left
none_left : tokens (split_outside []) ≡ []
unfolding comma_outside trim solid_length run
none_left = tokens_blank [] (omega arith) refl

empty_is : (t : List ℕ) → length t ≡ 0 → t ≡ []
empty_is [] e = refl
empty_is (b ∷ t) e = absurd (omega arith)

-- what stands behind the place `at`, where k is what a search for a comma answers and `next` is the place behind the comma
module _ (s : List ℕ) (at k next : ℕ) (e : k ≡ at + comma_at (drop at s)) (h : k ≤ length s) (f : next ≡ min (k + 1) (length s)) where
  -- without a comma the part is all that is left
  all_left : length s ≤ k → part s at (k - at) ≡ drop at s
  all_left l = part_rest s at (k - at) (omega (arith, e))

  pub token_here : get_or (tokens (split_outside (drop at s))) 0 [] ≡ trim (part s at (k - at))
  token_here =
      by_leb (length s) k
      (λ l. by_eqb (length (trim (drop at s))) 0
      (λ z. rw (operand_blank s at k e l z, all_left l) (sym (empty_is (trim (drop at s)) z)))
      (λ z. rw (operand_last s at k e l z, all_left l)))
      (λ l. rw (operand_comma s at k e l))

  pub tokens_behind : drop 1 (tokens (split_outside (drop at s))) ≡ tokens (split_outside (drop next s))
  tokens_behind =
      by_leb (length s) k
      (λ l.
      let o : length s ≤ next = omega (arith, f) in
      let d : drop next s ≡ [] = drop_of_length-le s o in
      by_eqb (length (trim (drop at s))) 0
      (λ z. rw (operand_blank s at k e l z, d, none_left))
      (λ z. rw (operand_last s at k e l z, d, none_left)))
      (λ l.
      let n : next ≡ k + 1 = omega (arith, f) in
      rw (operand_comma s at k e l, n))

-- a token is no longer than the text that it stands in
trim_short : (s : List ℕ) → length (trim s) ≤ length s
unfolding trim
trim_short s = let d = trim_start s in omega (arith, length-take (solid_length d) d, length-drop (run is_white s) s)

pub token_short : (s t : List ℕ) (at k : ℕ) → t ≡ trim (part s at (k - at)) → length t ≤ length s
token_short s t at k e = omega (arith, ap length e, trim_short (part s at (k - at)), length-take (k - at) (drop at s), length-drop at s)
