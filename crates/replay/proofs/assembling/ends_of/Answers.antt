use Rattle.std.proofs.Common.{refl, ◌∙◌, ◌*◌, arith}
use lib.ListN.{length-set}
use Rattle.replay.proofs.WordLaws.{four_bytes, over_start, over_turn, over_end}
use Rattle.replay.proofs.assembling.ends_of.Goals as goal

pub loop-i-init : goal.loop-i-init
loop-i-init c = (refl, over_start 4 c.args.s.now c.args.ends.now)

pub loop-i-preserved : goal.loop-i-preserved
loop-i-preserved c =
    let l = c.loop-i in
    let a = c.args in (
      length-set l.ends l.i _ ∙ l.invariant.0,
      rw (l.invariant.1, (four_bytes a.s.now (4 * l.i) (λ i. (c.type_inv.s i).fits) c.read_le.ensures).0) (over_turn 4 a.s.now a.ends.now l.i (4 * l.i) refl (omega arith)),
    )

pub returns : goal.returns
returns c =
    let l = c.loop-i in
    over_end 4 c.args.s.now c.args.ends.now l.ends l.i (omega arith) l.invariant.1
