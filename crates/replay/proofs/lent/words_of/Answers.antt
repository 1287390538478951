use Rattle.std.proofs.Common.{refl, ◌∙◌, ◌*◌, arith}
use lib.ListN.{length-set}
use Rattle.replay.proofs.WordLaws.{over_start, over_turn, over_end}
use Rattle.replay.proofs.lent.words_of.Goals as goal

pub loop-i-init : goal.loop-i-init
loop-i-init c = (refl, over_start 8 c.args.s.now c.args.words.now)

pub loop-i-preserved : goal.loop-i-preserved
loop-i-preserved c =
    let l = c.loop-i in
    let a = c.args in (
      length-set l.words l.i _ ∙ l.invariant.0,
      rw (l.invariant.1, c.read_le.ensures) (over_turn 8 a.s.now a.words.now l.i (8 * l.i) refl (omega arith)),
    )

pub returns : goal.returns
returns c =
    let l = c.loop-i in
    over_end 8 c.args.s.now c.args.words.now l.words l.i (omega arith) l.invariant.1
