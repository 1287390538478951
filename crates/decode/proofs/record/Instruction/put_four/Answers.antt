use mathlib.Core.Path.{◌≡◌, refl, ap, ◌∙◌}
use Prim.Native.Nat.{ℕ, ◌+◌, ◌*◌}
use native.Mathlib.Omega.{arith}
use Rattle.decode.proofs.PlanLaws.{plan_within}
use Rattle.decode.proofs.PlanLoop.{four_begun, four_inside, four_more}
use borrow.Author.Rules.{rules}
use Rattle.decode.proofs.record.Instruction.put_four.Goals as goal

pub loop-i-init : goal.loop-i-init
loop-i-init c =
    let a = c.args in
    (search rules, search rules, four_begun a.self.now.plan.now a.self.now.body.now a.out.now a.k a.self.now.at a.from)

pub overflow_add-start : goal.overflow_add-start
overflow_add-start c =
    omega (arith, c.byte_index.ensures, plan_within c.args.self.now.row c.args.self.now.plan.now (c.args.from + c.loop-i.i) (omega arith) c.args.self.now.planned)

pub overflow_add-end : goal.overflow_add-end
overflow_add-end c =
    let j = c.args.from + c.loop-i.i in
    let e : 2 * (j + 1) ≡ 2 * j + 2 = omega arith in
    omega (arith, c.byte_index-in-loop-i.ensures, rw e at (plan_within c.args.self.now.row c.args.self.now.plan.now (j + 1) (omega arith) c.args.self.now.planned))

pub put_operand-requires : goal.put_operand-requires
put_operand-requires c =
    let l = c.loop-i in
    let p = c.requires in
    let i = four_inside c.args.self.now.plan.now c.args.self.now.body.now c.args.out.now c.args.k c.args.self.now.at c.args.from p.2 p.1 l.out l.i _ _ 0 (ap (λ (x : ℕ). c.args.self.now.at + x) c.byte_index.ensures) (ap (λ (x : ℕ). c.args.self.now.at + x) c.byte_index-in-loop-i.ensures) c.args.self.now.row c.loop-i-test.true c.args.self.now.planned c.args.self.now.whole p.0 in
    (omega (arith, p.2, l.invariant.1), i.0, i.1, i.2, i.3)

pub loop-i-preserved : goal.loop-i-preserved
loop-i-preserved c =
    let a = c.args in
    let l = c.loop-i in
    let w = c.put_operand in
    (search rules, w.auto.out ∙ l.invariant.1, rw w.ensures (four_more a.self.now.plan.now a.self.now.body.now a.out.now a.k a.self.now.at a.from c.requires.2 c.requires.1 l.out l.i _ _ _ (ap (λ (x : ℕ). a.self.now.at + x) c.byte_index.ensures) (ap (λ (x : ℕ). a.self.now.at + x) c.byte_index-in-loop-i.ensures) c.loop-i-test.true refl l.invariant.2))

pub shape_of-out : goal.shape_of-out
shape_of-out c = c.loop-i.invariant.1

pub returns : goal.returns
returns c =
    let l = c.loop-i in
    let e : l.i ≡ 4 = omega arith in
    rw e at (l.invariant.2 c.args.self.now.row c.args.self.now.planned)
