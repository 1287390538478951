-- Laws of the operands between commas. Assumes nothing.
use mathlib.Core.Path.{◌≡◌, ap, sym, ◌∙◌}
use Prim.Native.Nat.{ℕ, suc, ◌+◌, ◌-◌, ◌≤◌, ◌<◌}
use native.Mathlib.Omega.{arith}
use mathlib.Core.List.{List, [], ◌∷◌}
use borrow.Author.Tests.{eq-eqb, ne_eqb}
use lib.ListN.{length, take, drop, length-drop}
use lib.Seq.{drop-drop}
use Rattle.lists.specs.Scan.{part}
use Rattle.lists.proofs.Tests.{by_leb}
use Rattle.lists.proofs.Parts.{tail_part}
use Rattle.spec_hasm.specs.Text.{trim}
use Rattle.spec_hasm.specs.Split.{split_outside, tokens_from, tokens}
use Rattle.hasm_read.specs.Commas.{comma_at}
use Rattle.hasm_read.proofs.CommaLaws.{split_comma, split_none}

-- a part with another behind it
tokens_more : (p q : List ℕ) (l ps : List (List ℕ)) → l ≡ q ∷ ps → tokens (p ∷ l) ≡ trim p ∷ tokens l
unfolding tokens tokens_from
tokens_more p q l ps e = rw e

tokens_split : (p s : List ℕ) → tokens (p ∷ split_outside s) ≡ trim p ∷ tokens (split_outside s)
tokens_split p s =
    by_leb (length s) (comma_at s) (λ h. tokens_more p _ _ _ (split_none s h)) (λ h. tokens_more p _ _ _ (split_comma s h))

-- an operand with a comma behind it
pub tokens_comma : (s : List ℕ) → comma_at s < length s
    → tokens (split_outside s) ≡ trim (take (comma_at s) s) ∷ tokens (split_outside (drop (suc (comma_at s)) s))
tokens_comma s h = ap tokens (split_comma s h) ∙ tokens_split (take (comma_at s) s) (drop (suc (comma_at s)) s)

-- the last part: no operand where it is blank
module _ (s : List ℕ) (h : length s ≤ comma_at s) where
  pub tokens_blank : length (trim s) ≡ 0 → tokens (split_outside s) ≡ []
  unfolding tokens tokens_from
  tokens_blank e = ap tokens (split_none s h) ∙ rw (eq-eqb _ 0 e)

  pub tokens_last : (length (trim s) ≡ 0 → ⊥) → tokens (split_outside s) ≡ trim s ∷ []
  unfolding tokens tokens_from
  tokens_last n = ap tokens (split_none s h) ∙ rw (ne_eqb _ 0 n)

-- the same from a place of a text on, where k is what a search for a comma answers
module _ (s : List ℕ) (at k : ℕ) (e : k ≡ at + comma_at (drop at s)) where
  pub operand_comma : k < length s
      → tokens (split_outside (drop at s)) ≡ trim (part s at (k - at)) ∷ tokens (split_outside (drop (k + 1) s))
  operand_comma h =
      let c : comma_at (drop at s) ≡ k - at = omega (arith, e) in
      let l : comma_at (drop at s) < length (drop at s) = rw length-drop (omega (arith, e)) in
      let j : at + suc (k - at) ≡ k + 1 = omega (arith, e) in
      tokens_comma (drop at s) l ∙ rw (c, drop-drop (suc (k - at)) at s, j)

  module _ (h : length s ≤ k) where
    ends : length (drop at s) ≤ comma_at (drop at s)
    ends = rw length-drop (omega (arith, e))

    pub operand_blank : length (trim (drop at s)) ≡ 0 → tokens (split_outside (drop at s)) ≡ []
    operand_blank z = tokens_blank (drop at s) ends z

    pub operand_last : (length (trim (drop at s)) ≡ 0 → ⊥) → tokens (split_outside (drop at s)) ≡ trim (drop at s) ∷ []
    operand_last n = tokens_last (drop at s) ends n

-- counting the operands of a text, n of which stand before `at`
module _ (s : List ℕ) (at k n whole : ℕ) (e : k ≡ at + comma_at (drop at s)) (g : whole ≡ n + length (tokens (split_outside (drop at s)))) where
  pub count_comma : k < length s → whole ≡ n + 1 + length (tokens (split_outside (drop (k + 1) s)))
  count_comma h = omega (arith, g, ap length (operand_comma s at k e h))

  module _ (h : length s ≤ k) (t : List ℕ) (f : t ≡ trim (take (length s - at) (drop at s))) where
    last_part : length t ≡ length (trim (drop at s))
    last_part = ap length f ∙ ap (λ (l : List ℕ). length (trim l)) (tail_part s at)

    pub count_blank : length t ≡ 0 → n ≡ whole
    count_blank z = omega (arith, g, ap length (operand_blank s at k e h (sym last_part ∙ z)))

    pub count_last : (length t ≡ 0 → ⊥) → n + 1 ≡ whole
    count_last m = omega (arith, g, ap length (operand_last s at k e h (λ z. m (last_part ∙ z))))
