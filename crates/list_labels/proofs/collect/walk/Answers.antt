use native.Mathlib.Omega.{arith}
use mathlib.Core.Path.{◌∙◌}
use lib.ListN.{get_or}
use Prim.Native.Nat.{◌<◌}
use Rattle.list_labels.proofs.WalkLoop.{start, ended, stopped, broken, turn}
use borrow.Author.Rules.{rules}
use Rattle.list_labels.proofs.collect.walk.Goals as goal

pub loop-at-init : goal.loop-at-init
loop-at-init c = start _ _ _ _ _ _ _

pub shape_of-flags-then-body-op : goal.shape_of-flags-then-body-op
shape_of-flags-then-body-op c = c.loop-at.invariant.same_flags

pub shape_of-stored-then-body-op : goal.shape_of-stored-then-body-op
shape_of-stored-then-body-op c = c.loop-at.invariant.same_stored

pub returns-then-body-op : goal.returns-then-body-op
returns-then-body-op c =
    let r = stopped _ _ _ _ _ _ c.loop-at.invariant c.loop-at-test.true c.if-body-op.true in
    record { value = r.answered; noted = r.left_noted }

pub shape_of-flags-then-s-at : goal.shape_of-flags-then-s-at
shape_of-flags-then-s-at c = c.loop-at.invariant.same_flags

pub shape_of-stored-then-s-at : goal.shape_of-stored-then-s-at
shape_of-stored-then-s-at c = c.loop-at.invariant.same_stored

pub returns-then-s-at : goal.returns-then-s-at
returns-then-s-at c =
    let l = c.loop-at in
    let h : get_or c.args.body.bytes.now l.at 0 < 256 = search rules in
    let z = c.byte_index-size.ensures ∙ (c.args.body.fit _ h c.if-body-op.false).size in
    let r = broken _ _ _ _ _ _ l.invariant c.loop-at-test.true c.if-body-op.false _ z c.if-s-at.true in
    record { value = r.answered; noted = r.left_noted }

pub note_instruction-counts-requires : goal.note_instruction-counts-requires
note_instruction-counts-requires c =
    let l = c.loop-at in
    let h : get_or c.args.body.bytes.now l.at 0 < 256 = search rules in
    let f = c.args.body.fit _ h c.if-body-op.false in
    (c.byte_index-size.ensures ∙ f.size, search rules, search rules, search rules, f)

pub loop-at-smaller : goal.loop-at-smaller
loop-at-smaller c =
    let l = c.loop-at in
    let h : get_or c.args.body.bytes.now l.at 0 < 256 = search rules in
    let z = c.byte_index-size.ensures ∙ (c.args.body.fit _ h c.if-body-op.false).size in
    omega (arith, z, c.loop-at-test.true, c.if-s-at.false)

pub loop-at-preserved : goal.loop-at-preserved
loop-at-preserved c =
    let l = c.loop-at in
    let h : get_or c.args.body.bytes.now l.at 0 < 256 = search rules in
    let w = c.note_instruction-counts in
    let z = c.byte_index-size.ensures ∙ (c.args.body.fit _ h c.if-body-op.false).size in
    turn _ _ _ _ _ _ l.invariant c.loop-at-test.true c.if-body-op.false _ z _ c.if-s-at.false w.auto.flags w.auto.stored w.ensures.result_after w.ensures.far_bound

pub shape_of-flags : goal.shape_of-flags
shape_of-flags c = c.loop-at.invariant.same_flags

pub shape_of-stored : goal.shape_of-stored
shape_of-stored c = c.loop-at.invariant.same_stored

pub returns : goal.returns
returns c =
    let r = ended _ _ _ _ _ _ c.loop-at.invariant c.loop-at-test.false in
    record { value = r.answered; noted = r.left_noted }
