use mathlib.Core.Path.{◌≡◌, refl, ap, ◌∙◌}
use native.Mathlib.Omega.{arith}
use Rattle.std.specs.Prelude.{None, Some, Ok}
use Rattle.carry.specs.declared.plans.Plan.{Plan}
use Rattle.carry.proofs.AnswerLaws.{not_some}
use Rattle.carry.proofs.OperandLoop.{start, ended, stopped, operand_room, turn_near, turn_far, refused, code_none, plan_is}
use Rattle.carry.proofs.instructions.carry_operands.Goals.{in-Ok-Some, in-Ok-None}
use Rattle.carry.proofs.instructions.carry_operands.Goals as goal

pub overflow_add-p : goal.overflow_add-p
overflow_add-p c = omega (arith, c.requires.0.room, c.requires.1)

pub loop-j-init : goal.loop-j-init
loop-j-init c = λ g. start _ _ _ _ _ _ _ _ _ g.room (omega arith) (omega arith)

pub returns-in_default : goal.returns-in_default
returns-in_default c = λ g.
    stopped _ _ _ _ _ _ _ _ _ _ _ _ _ _ (c.loop-j.invariant g) g.planned.size g.planned.size' c.loop-j-test.true _ refl (code_none g _ (not_some _ c.in_default.not-Some))

pub carry_operand-requires : goal.carry_operand-requires
carry_operand-requires c =
    let g = c.requires.0 in
    let p = plan_is g _ _ c.in-Some.is in
    (record { c = _; d = _; is = p }, omega (arith, operand_room _ _ _ _ _ _ _ _ _ _ _ _ _ _ (c.loop-j.invariant g) g.planned.size g.planned.size' c.loop-j-test.true _ refl _ (ap (λ (p : Plan). p.old_width) p)), omega (arith, g.room, c.requires.1), c.requires.2)

pub returns-in-Err : goal.returns-in-Err
returns-in-Err c = λ g.
    refused _ _ _ _ _ _ _ _ _ _ _ _ _ _ (c.loop-j.invariant g) g.planned.size g.planned.size' c.loop-j-test.true _ refl _ refl _ _
    (λ x i q m here. c.carry_operand.ensures x i q _ _ m here (plan_is g _ _ c.in-Some.is)) _ c.in-Err.is

pub overflow_add-p-in-loop-j : goal.overflow_add-p-in-loop-j
overflow_add-p-in-loop-j c =
    let g = c.requires.0 in
    omega (arith, c.requires.1, operand_room _ _ _ _ _ _ _ _ _ _ _ _ _ _ (c.loop-j.invariant g) g.planned.size g.planned.size' c.loop-j-test.true _ refl _ (c.from-p.ensures ∙ ap (λ (p : Plan). p.old_width) (plan_is g _ _ c.in-Some.is)))

pub loop-j-preserved : goal.loop-j-preserved
loop-j-preserved c = λ g.
    elim c.match-carry_operand-2.branch [
      | in-Ok-Some w ↦
          let h : c.carry_operand.result ≡ Ok (Some c.match-carry_operand-2.next) = cc in
          rw w.far-is
          (turn_near _ _ _ _ _ _ _ _ _ _ _ _ _ _ (c.loop-j.invariant g) g.planned.size g.planned.size' c.loop-j-test.true _ refl _ refl _ _
          (λ x i q m here. c.carry_operand.ensures x i q _ _ m here (plan_is g _ _ c.in-Some.is)) c.carry_operand.auto.block _ (c.from-p.ensures ∙ ap (λ (p : Plan). p.old_width) (plan_is g _ _ c.in-Some.is)) _ h)
      | in-Ok-None w ↦
          let h : c.carry_operand.result ≡ Ok None = cc in
          rw (w.next-is, w.far-is ∙ w.or-far.ensures)
          (turn_far _ _ _ _ _ _ _ _ _ _ _ _ _ _ (c.loop-j.invariant g) g.planned.size g.planned.size' c.loop-j-test.true _ refl _ refl _ _
          (λ x i q m here. c.carry_operand.ensures x i q _ _ m here (plan_is g _ _ c.in-Some.is)) c.carry_operand.auto.block _ (c.from-p.ensures ∙ ap (λ (p : Plan). p.old_width) (plan_is g _ _ c.in-Some.is)) h)
    ]

pub returns : goal.returns
returns c = λ g. ended _ _ _ _ _ _ _ _ _ _ _ _ _ _ (c.loop-j.invariant g) g.planned.size g.planned.size' c.loop-j-test.false
