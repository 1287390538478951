use native.Mathlib.Numerals.{unary_clauses}
use native.Mathlib.Omega.{arith}
use Rattle.carry.proofs.InstructionLoop.{start, all_done, small_here, plans_here, name_unknown, count_differs, operand_refused, next_turn}
use borrow.Author.Rules.{rules}
use Rattle.carry.proofs.instructions.carry_instructions.Goals as goal

pub loop-at-init : goal.loop-at-init
loop-at-init c = λ g. start _ _ _ _ _ _ _ _ _ (search rules) (omega arith)

pub make_room-gathered-requires : goal.make_room-gathered-requires
make_room-gathered-requires c = omega (arith, (c.loop-at.invariant c.requires).held, (c.loop-at.invariant c.requires).size)

pub returns-in-Missing : goal.returns-in-Missing
returns-in-Missing c = λ g. name_unknown (c.loop-at.invariant g) c.make_room-gathered.ensures c.loop-at-test.true (c.type_inv.s c.loop-at.at).fits c.in-Missing.is g.ready

pub returns-in-OtherCount : goal.returns-in-OtherCount
returns-in-OtherCount c = λ g. count_differs (c.loop-at.invariant g) c.make_room-gathered.ensures c.loop-at-test.true (c.type_inv.s c.loop-at.at).fits c.in-OtherCount.is g.ready

pub carry_instruction-requires : goal.carry_instruction-requires
carry_instruction-requires c =
    let g = c.requires in
    let v = c.loop-at.invariant g in
    (plans_here v c.make_room-gathered.ensures c.loop-at-test.true (c.type_inv.s c.loop-at.at).fits g.ready c.args.plans.now g.plans_are, g.ready.few, omega (arith, v.small, v.inside, g.ready.few))

pub returns-in-Err : goal.returns-in-Err
returns-in-Err c = λ g.
    let u = (c.type_inv.s c.loop-at.at).fits in
    let p = plans_here (c.loop-at.invariant g) c.make_room-gathered.ensures c.loop-at-test.true u g.ready c.args.plans.now g.plans_are in
    operand_refused (c.loop-at.invariant g) c.make_room-gathered.ensures c.loop-at-test.true u c.in-Known.is (c.carry_instruction.ensures p) c.in-Err.is g.ready

pub overflow_add-new : goal.overflow_add-new
overflow_add-new c =
    let v = c.loop-at.invariant c.requires in
    omega (arith, v.small, v.inside, c.requires.ready.few, small_here v c.make_room-gathered.ensures c.loop-at-test.true (c.type_inv.s c.loop-at.at).fits c.requires.ready)

pub overflow_add-at : goal.overflow_add-at
overflow_add-at c =
    omega (arith, c.requires.ready.few, small_here (c.loop-at.invariant c.requires) c.make_room-gathered.ensures c.loop-at-test.true (c.type_inv.s c.loop-at.at).fits c.requires.ready)

pub overflow_add-i : goal.overflow_add-i
overflow_add-i c = let v = c.loop-at.invariant c.requires in omega (arith, v.below, v.inside, c.requires.ready.few)

pub loop-at-smaller : goal.loop-at-smaller
loop-at-smaller c = omega (arith, small_here (c.loop-at.invariant c.requires) c.make_room-gathered.ensures c.loop-at-test.true (c.type_inv.s c.loop-at.at).fits c.requires.ready)

pub loop-at-preserved : goal.loop-at-preserved
loop-at-preserved c = λ g.
    let u = (c.type_inv.s c.loop-at.at).fits in
    let p = plans_here (c.loop-at.invariant g) c.make_room-gathered.ensures c.loop-at-test.true u g.ready c.args.plans.now g.plans_are in
    next_turn (c.loop-at.invariant g) c.make_room-gathered.ensures c.loop-at-test.true u c.in-Known.is (c.carry_instruction.ensures p) g.ready c.carry_instruction.auto.block c.in-Ok.is c.keep_first-first.ensures

pub slice_bounds-put_bytes-end : goal.slice_bounds-put_bytes-end
slice_bounds-put_bytes-end c = omega (arith, (c.loop-at.invariant c.requires).held, (c.loop-at.invariant c.requires).size)

pub returns : goal.returns
returns c = λ g. rw c.ended.ensures (all_done _ _ _ _ _ _ _ _ _ _ _ _ _ _ _ _ (c.loop-at.invariant g) c.loop-at-test.false (simp unary_clauses at c.put_bytes-end.ensures) g.ready)
