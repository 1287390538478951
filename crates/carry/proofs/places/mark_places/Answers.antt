use native.Mathlib.Omega.{arith}
use Rattle.carry.proofs.PlaceLoop.{start, ended, stopped, broken, turn, length_some}
use Rattle.carry.proofs.places.mark_places.Goals as goal

pub loop-at-init : goal.loop-at-init
loop-at-init c = start _ _ _ _

pub overflow_cast-op : goal.overflow_cast-op
overflow_cast-op c = omega (arith, c.shared_slice_known-1.given c.loop-at.at)

pub returns-then-last-op : goal.returns-then-last-op
returns-then-last-op c =
    let l = c.loop-at in
    let p = c.requires in
    stopped _ _ _ _ _ _ _ _ p.0 p.2 p.3 l.invariant c.loop-at-test.true c.if-last-op.true

pub offset_bounds-rows-op : goal.offset_bounds-rows-op
offset_bounds-rows-op c = omega (arith, c.shared_slice_known-1.given c.loop-at.at)

pub bounds-rows-op : goal.bounds-rows-op
bounds-rows-op c = (c.shared_slice_known-1.given c.loop-at.at).fits

pub returns-then-s-at : goal.returns-then-s-at
returns-then-s-at c =
    let l = c.loop-at in
    let p = c.requires in
    broken _ _ _ _ _ _ _ _ p.0 p.2 p.3 l.invariant c.loop-at-test.true c.if-last-op.false (c.shared_slice_known-1.given c.loop-at.at).fits c.if-s-at.true

pub overflow_add-new : goal.overflow_add-new
overflow_add-new c = omega (arith, c.loop-at.invariant.small, c.requires.0.lengths _ (c.shared_slice_known-1.given c.loop-at.at).fits c.if-last-op.false)

pub loop-at-smaller : goal.loop-at-smaller
loop-at-smaller c = omega (arith, length_some _ _ c.requires.0 _ (c.shared_slice_known-1.given c.loop-at.at).fits c.if-last-op.false, c.if-s-at.false, c.loop-at-test.true)

pub loop-at-preserved : goal.loop-at-preserved
loop-at-preserved c =
    let l = c.loop-at in
    let p = c.requires in
    turn _ _ _ _ _ _ _ _ p.0 p.2 p.3 l.invariant c.loop-at-test.true c.if-last-op.false (c.shared_slice_known-1.given c.loop-at.at).fits c.if-s-at.false

pub returns : goal.returns
returns c =
    let l = c.loop-at in
    let p = c.requires in
    ended _ _ _ _ _ _ _ _ p.0 p.2 p.3 l.invariant c.loop-at-test.false
