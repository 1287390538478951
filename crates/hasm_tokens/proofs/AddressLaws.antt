-- The ways through the reading of a jump's target and through its distance, one law for each. Assumes nothing.
use mathlib.Core.Path.{◌≡◌, refl, ap, sym, ◌∙◌}
use mathlib.Core.Bool.{true, false}
use mathlib.Core.List.{List, [], ◌∷◌}
use Prim.Native.Nat.{ℕ, ◌-◌, ◌^◌, ◌≤◌, ◌<◌}
use native.Mathlib.Omega.{arith}
use lib.Dec.{eqb, leb}
use lib.ListN.{length, take, drop, get_or}
use borrow.Author.Tests.{eq-eqb, ne_eqb, le-leb, lt-leb}
use Rattle.std.specs.Prelude.{Some, None}
use Rattle.lists.specs.Found.{Found}
use Rattle.lists.specs.Found.Found.{missing}
use Rattle.lists.proofs.Parts.{tail_part}
use Rattle.lists.proofs.Tests.{by_test}
use Rattle.spec_numbers.specs.Parse.{Parsed, parse_u32}
use Rattle.spec_numbers.specs.Parse.Parsed.{is, bad}
use Rattle.spec_numbers.specs.TwosComplement.{wrap_sub}
use Rattle.spec_numbers.proofs.ParseLaws.{u32_bound}
use Rattle.answers.specs.declared.refusal.OperandFault.TheVariants as fault
use Rattle.spec_hasm.specs.Token.{found_or, offset_or, target_in, is_near, distance_to}
use Rattle.spec_hasm.specs.Token.Value.{value, refused}
use Rattle.numbers.specs.Answers.{number_of}
use Rattle.numbers.proofs.AnswerLaws.{number_is, number_bad}
use Rattle.hasm_tokens.specs.declared.address_token.Target.{Target}
use Rattle.hasm_tokens.specs.declared.address_token.Target.TheVariants.{Offset}
use Rattle.hasm_tokens.specs.Targets.{target_or}
use Rattle.hasm_tokens.proofs.BoundLaws.{refused_not_value, same_value}

-- a target: an empty token, no `L`, `L` and no number, and `L` and a number
module _ (t : List ℕ) (labels : List ℕ → Found) where
  pub target_not : (get_or t 0 0 ≡ 76 → ⊥) → target_in labels t ≡ refused fault.Address
  unfolding target_in
  target_not h = rw (ne_eqb _ _ h)

  target_by : (p : Parsed) → get_or t 0 0 ≡ 76 → parse_u32 (drop 1 t) ≡ p → target_in labels t ≡ offset_or (labels t) p
  unfolding target_in
  target_by p h e = rw (eq-eqb _ _ h, e)

  pub target_label : get_or t 0 0 ≡ 76 → number_of (parse_u32 (take (length t - 1) (drop 1 t))) ≡ None → target_in labels t ≡ found_or fault.Address (labels t)
  unfolding offset_or
  target_label h e = target_by bad h (number_bad (parse_u32 (drop 1 t)) (rw (tail_part t 1) at e))

  pub target_offset : (n : ℕ) → get_or t 0 0 ≡ 76 → number_of (parse_u32 (take (length t - 1) (drop 1 t))) ≡ Some n → target_in labels t ≡ value n
  unfolding offset_or
  target_offset n h e = target_by (is n) h (number_is (parse_u32 (drop 1 t)) n (rw (tail_part t 1) at e))

pub target_none : (t : List ℕ) (labels : List ℕ → Found) → length t ≡ 0 → target_in labels t ≡ refused fault.Address
unfolding target_in
target_none [] labels h = refl
target_none (b ∷ s) labels h = absurd (omega arith)

-- without labels a target is an offset, and that is a u32
offset_read : (n : ℕ) (p : Parsed) → offset_or missing p ≡ value n → p ≡ is n
unfolding offset_or found_or
offset_read n (is m) e = ap is (same_value e)
offset_read n bad e = refused_not_value e

offset_below : (t : List ℕ) (n : ℕ) → target_in (λ (s : List ℕ). missing) t ≡ value n → n < 2 ^ 32
unfolding target_in
offset_below t n e =
    by_test (eqb (get_or t 0 0) 76)
    (λ y. u32_bound 10 n (drop 1 t) (offset_read n (parse_u32 (drop 1 t)) (rw y at e)))
    (λ y. refused_not_value (rw y at e))

-- so is the offset that the code answers
pub offset_answer : (t : List ℕ) (n : ℕ) (r : Target) → ((labels : List ℕ → Found) → target_in labels t ≡ target_or r (labels t)) → r ≡ Offset n → n < 2 ^ 32
offset_answer t n r h e = offset_below t n (h (λ (s : List ℕ). missing) ∙ ap (λ (a : Target). target_or a missing) e)

-- a distance is near as it is small, as it is just below zero, and else it is not
module _ (d : ℕ) where
  pub near_small : d ≤ 127 → is_near d ≡ true
  unfolding is_near
  near_small h = rw (le-leb _ _ h)

  pub near_large : 127 < d → is_near d ≡ leb (2 ^ 32 - 128) d
  unfolding is_near
  near_large h = rw (lt-leb _ _ h)

-- a distance d of four bytes, a near one, and one that is too far
module _ (width offset target d : ℕ) (e : d ≡ wrap_sub target offset) where
  pub distance_wide : width ≡ 4 → distance_to width offset (value target) ≡ value d
  unfolding distance_to
  distance_wide h = rw (eq-eqb width 4 h, sym e)

  module _ (w : width ≡ 4 → ⊥) where
    pub distance_near : is_near d ≡ true → distance_to width offset (value target) ≡ value d
    unfolding distance_to
    distance_near h = rw (ne_eqb width 4 w, sym e, h)

    pub distance_far : is_near d ≡ false → distance_to width offset (value target) ≡ refused fault.Distance
    unfolding distance_to
    distance_far h = rw (ne_eqb width 4 w, sym e, h)
