use Rattle.list_labels.proofs.TargetsLoop.{start, operand_inside, turn, all_noted, all_few}
use lib.ListN.{length}
use native.Mathlib.Omega.{arith}
use Prim.Native.Nat.{◌<◌}
use mathlib.Core.Path.{◌≡◌}
use borrow.Author.Rules.{rules}
use Rattle.list_labels.proofs.instruction_labels.note_targets.Goals as goal

pub loop-code-init : goal.loop-code-init
loop-code-init c = start _ _ _ _ c.requires.2

pub note_target-c-requires : goal.note_target-c-requires
note_target-c-requires c =
    let l = c.loop-code in
    let h : length c.args.row ≡ 8 = search rules in
    let b : l.code-index < 8 = c.loop-code-test.true in
    let k = operand_inside _ _ _ _ _ _ _ l.invariant h b in
    (omega (arith, c.requires.0, c.requires.1), omega (arith, c.requires.0, k), omega (arith, c.requires.0, c.requires.1, l.invariant.few, k))

pub overflow_add-p-in-loop-code : goal.overflow_add-p-in-loop-code
overflow_add-p-in-loop-code c =
    let l = c.loop-code in
    let h : length c.args.row ≡ 8 = search rules in
    omega (arith, c.width-p.ensures, c.requires.0, c.requires.1, operand_inside _ _ _ _ _ _ _ l.invariant h c.loop-code-test.true)

pub loop-code-preserved : goal.loop-code-preserved
loop-code-preserved c =
    let l = c.loop-code in
    let t = c.note_target-c in
    let h : length c.args.row ≡ 8 = search rules in
    turn _ _ _ _ _ _ _ l.invariant h _ _ c.loop-code-test.true c.width-p.ensures t.auto.flags t.auto.stored t.ensures

pub shape_of-flags : goal.shape_of-flags
shape_of-flags c = c.loop-code.invariant.same_flags

pub shape_of-stored : goal.shape_of-stored
shape_of-stored c = c.loop-code.invariant.same_stored

pub returns : goal.returns
returns c =
    let l = c.loop-code in
    let h : length c.args.row ≡ 8 = search rules in
    record { result_after = all_noted _ _ _ _ _ _ _ l.invariant h c.loop-code-test.false; far_bound = all_few _ _ _ _ _ _ _ l.invariant h c.loop-code-test.false }
