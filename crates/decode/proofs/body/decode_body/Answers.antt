use mathlib.Core.Path.{sym, ◌∙◌, ap}
use native.Mathlib.Omega.{arith}
use Rattle.decode.specs.Bodies.{body_answer}
use Rattle.decode.proofs.PlanLaws.{plan_length}
use Rattle.decode.proofs.BodyLoop.{start, ended, stopped, broken, turn, not_whole, all_written}
use Rattle.std.specs.Prelude.{Ok}
use Rattle.decode.proofs.body.decode_body.Goals as goal

pub loop-at-init : goal.loop-at-init
loop-at-init c = start _ _ _ _

pub overflow_cast-op : goal.overflow_cast-op
overflow_cast-op c = omega (arith, c.type_inv.s c.loop-at.at)

pub shape_of-out-then-last-op : goal.shape_of-out-then-last-op
shape_of-out-then-last-op c = c.loop-at.invariant.same

pub returns-then-last-op : goal.returns-then-last-op
unfolding body_answer
returns-then-last-op c =
    let l = c.loop-at in
    let e = stopped _ _ _ _ _ _ _ l.invariant c.loop-at-test.true c.if-last-op.true in
    record { value = sym (ap body_answer e); by_index = (λ rs f. not_whole _ e f) }

pub offset_bounds-types-op : goal.offset_bounds-types-op
offset_bounds-types-op c = omega (arith, c.type_inv.s c.loop-at.at)

pub bounds-types-op : goal.bounds-types-op
bounds-types-op c = (c.type_inv.s c.loop-at.at).fits

pub offset_bounds-plans-op : goal.offset_bounds-plans-op
offset_bounds-plans-op c = omega (arith, c.type_inv.s c.loop-at.at)

pub bounds-plans-op : goal.bounds-plans-op
bounds-plans-op c = (c.type_inv.s c.loop-at.at).fits

pub shape_of-out-then-s-at : goal.shape_of-out-then-s-at
shape_of-out-then-s-at c = c.loop-at.invariant.same

pub returns-then-s-at : goal.returns-then-s-at
unfolding body_answer
returns-then-s-at c =
    let l = c.loop-at in
    let p = c.plan_rows-plans.ensures _ (c.type_inv.s l.at).fits c.if-last-op.false in
    let e = broken _ _ _ _ _ _ _ l.invariant c.loop-at-test.true c.if-last-op.false _ (c.byte_index-size.ensures ∙ plan_length _ _ p) c.if-s-at.true in
    record { value = sym (ap body_answer e); by_index = (λ rs f. not_whole _ e f) }

pub invariant_of-instruction : goal.invariant_of-instruction
invariant_of-instruction c =
    let p = c.plan_rows-plans.ensures _ (c.type_inv.s c.loop-at.at).fits c.if-last-op.false in
    record { planned = p; whole = omega (arith, c.byte_index-size.ensures, plan_length _ _ p, c.if-s-at.false, c.loop-at-test.true) }

pub loop-at-smaller : goal.loop-at-smaller
loop-at-smaller c =
    let p = c.plan_rows-plans.ensures _ (c.type_inv.s c.loop-at.at).fits c.if-last-op.false in
    omega (arith, c.byte_index-size.ensures, plan_length _ _ p, c.if-s-at.false, c.loop-at-test.true)

pub loop-at-preserved : goal.loop-at-preserved
loop-at-preserved c =
    let l = c.loop-at in
    let w = c.store_record in
    let p = c.plan_rows-plans.ensures _ (c.type_inv.s l.at).fits c.if-last-op.false in
    turn _ _ _ _ _ _ _ l.invariant c.loop-at-test.true c.if-last-op.false _ (c.byte_index-size.ensures ∙ plan_length _ _ p) _ c.if-s-at.false w.auto.out p.1 w.ensures

pub shape_of-out : goal.shape_of-out
shape_of-out c = c.loop-at.invariant.same

pub returns : goal.returns
unfolding body_answer
returns c =
    let l = c.loop-at in
    let e = ended _ _ _ _ _ _ _ l.invariant c.loop-at-test.false in
    record { value = ap Ok (sym l.invariant.number) ∙ sym (ap body_answer e); by_index = (λ rs f. all_written _ _ _ _ _ _ _ l.invariant c.loop-at-test.false rs f) }
