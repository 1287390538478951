use mathlib.Core.Path.{refl, ap, sym, ◌∙◌}
use native.Mathlib.Omega.{arith}
use mathlib.Core.Logic.{⊎_elim}
use Rattle.std.specs.Prelude.{Some}
use Rattle.carry.proofs.WriteLaws.{near_most, in_four, in_one, past_one}
use Rattle.carry.proofs.new_bits.distance_into.Goals as goal

pub returns-then-w-ne1 : goal.returns-then-w-ne1
returns-then-w-ne1 c =
    let w = ⊎_elim (λ e. absurd (c.if-w-ne1.true e)) (λ e. e) c.requires.1 in
    ap Some (c.distance_bits.ensures _ (rw w)) ∙ sym (in_four _ _ _ c.if-w-ne1.true)

pub distance_bits-requires-then-is_near : goal.distance_bits-requires-then-is_near
distance_bits-requires-then-is_near c = omega (arith, near_most _ _ (sym c.is_near.ensures ∙ c.if-is_near.true))

pub returns-then-is_near : goal.returns-then-is_near
returns-then-is_near c = ap Some (c.distance_bits-then-is_near.ensures 1 refl) ∙ sym (in_one _ _ _ c.if-w-ne1.false (sym c.is_near.ensures ∙ c.if-is_near.true))

pub returns : goal.returns
returns c = sym (past_one _ _ _ c.if-w-ne1.false (sym c.is_near.ensures ∙ c.if-is_near.false))
