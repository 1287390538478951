use Rattle.job.proofs.HexLoop.{begin, ended, past, no_high, no_low, turn}
use Rattle.lists.proofs.Writes.{kept_length}
use native.Mathlib.Omega.{arith}
use Rattle.job.proofs.hex.hex_at.Goals as goal

pub loop-at-init : goal.loop-at-init
loop-at-init c =
    let a = c.args in
    begin a.s.now a.start a.out.now a.from (omega arith) (omega arith)

pub shape_of-out-then-s-at-eq10 : goal.shape_of-out-then-s-at-eq10
shape_of-out-then-s-at-eq10 c = kept_length c.loop-at.invariant.wrote

pub returns-then-s-at-eq10 : goal.returns-then-s-at-eq10
returns-then-s-at-eq10 c = ended _ _ _ _ _ _ _ c.loop-at.invariant c.if-s-at-eq10.true

pub shape_of-out-then-high-gt15 : goal.shape_of-out-then-high-gt15
shape_of-out-then-high-gt15 c = kept_length c.loop-at.invariant.wrote

pub returns-then-high-gt15 : goal.returns-then-high-gt15
returns-then-high-gt15 c = no_high _ _ _ _ _ _ _ c.loop-at.invariant c.if-s-at-eq10.false _ c.digit_at-high.ensures c.if-high-gt15.true

pub shape_of-out-then-low-gt15 : goal.shape_of-out-then-low-gt15
shape_of-out-then-low-gt15 c = kept_length c.loop-at.invariant.wrote

pub returns-then-low-gt15 : goal.returns-then-low-gt15
returns-then-low-gt15 c = no_low _ _ _ _ _ _ _ c.loop-at.invariant c.if-s-at-eq10.false _ c.digit_at-high.ensures _ c.digit_at-low.ensures c.if-low-gt15.true

pub loop-at-preserved : goal.loop-at-preserved
loop-at-preserved c = turn _ _ _ _ _ _ _ c.loop-at.invariant c.if-s-at-eq10.false _ c.digit_at-high.ensures _ c.digit_at-low.ensures _ _ c.loop-at-test.true c.if-high-gt15.false c.if-low-gt15.false c.put_byte-k.ensures

pub shape_of-out : goal.shape_of-out
shape_of-out c = kept_length c.loop-at.invariant.wrote

pub returns : goal.returns
returns c = past _ _ _ _ _ _ _ c.loop-at.invariant c.loop-at-test.false
