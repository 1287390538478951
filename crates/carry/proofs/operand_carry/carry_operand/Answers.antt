use mathlib.Core.Path.{ap, sym, ◌∙◌}
use Prim.Native.Nat.{ℕ}
use Rattle.std.specs.Prelude.{Ok}
use Rattle.lists.specs.Scan.{part}
use Rattle.spec_numbers.specs.LittleEndian.{le}
use Rattle.spec_sheet.proofs.TypeLaws.{width_most}
use Rattle.spec_body.proofs.ReencodeLaws.{part_below}
use Rattle.carry.specs.declared.plans.Plan.{Plan}
use Rattle.carry.proofs.AnswerLaws.{is_error}
use Rattle.carry.proofs.CarriedLaws.{carried_near, carried_far, carried_refused}
use Rattle.carry.proofs.operand_carry.carry_operand.Goals as goal

pub read_le-bits-requires : goal.read_le-bits-requires
read_le-bits-requires c =
    let g = c.requires.0 in
    (rw c.from.ensures c.requires.1, rw (c.from.ensures ∙ ap (λ (p : Plan). p.old_width) g.is) (width_most g.c))

pub new_bits-requires : goal.new_bits-requires
new_bits-requires c =
    let a = c.args in
    (c.requires.0, c.requires.2, c.requires.3, rw (c.read_le-bits.ensures, c.from.ensures) (part_below a.s.now a.p a.plan.old_width (λ i. (c.type_inv.s i).fits)))

pub put_word-requires : goal.put_word-requires
put_word-requires c = let g = c.requires.0 in rw (c.from-2.ensures ∙ ap (λ (p : Plan). p.new_width) g.is) (width_most g.d)

pub returns-in_err-moved : goal.returns-in_err-moved
returns-in_err-moved c = λ x i q a d m here e.
    let b = c.read_le-bits.ensures ∙ ap (λ (w : ℕ). le (part c.args.s.now c.args.p w)) (c.from.ensures ∙ ap (λ (p : Plan). p.old_width) e) in
    rw (is_error _ c.from_residual.ensures.1, sym b) (carried_refused x i c.args.place.old q c.args.place.new a d _ c.args.block.now c.args.k _ _ (rw c.in_err-moved.was at (c.new_bits.ensures x i q a d m here e)))

pub returns-in_default : goal.returns-in_default
returns-in_default c = λ x i q a d m here e.
    let b = c.read_le-bits.ensures ∙ ap (λ (w : ℕ). le (part c.args.s.now c.args.p w)) (c.from.ensures ∙ ap (λ (p : Plan). p.old_width) e) in
    rw (sym b) (carried_far x i c.args.place.old q c.args.place.new a d _ c.args.block.now c.args.k _ (rw (c.in_ok-moved.was ∙ ap Ok c.in_default.is) at (c.new_bits.ensures x i q a d m here e)))

pub returns : goal.returns
returns c = λ x i q a d m here e.
    let b = c.read_le-bits.ensures ∙ ap (λ (w : ℕ). le (part c.args.s.now c.args.p w)) (c.from.ensures ∙ ap (λ (p : Plan). p.old_width) e) in
    rw (sym b)
    (carried_near x i c.args.place.old q c.args.place.new a d _ c.args.block.now c.args.k _ _ _
    (rw (c.in_ok-moved.was ∙ ap Ok c.in-Some.is) at (c.new_bits.ensures x i q a d m here e))
    (rw (c.from-2.ensures ∙ ap (λ (p : Plan). p.new_width) e) at c.put_word.ensures))
