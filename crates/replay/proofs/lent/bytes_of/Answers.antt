use Rattle.std.proofs.Common.{arith}
use Rattle.lists.proofs.LeftToWrite.{left_all, left_turn, left_none}
use Rattle.replay.proofs.WordLaws.{bytes_next, bytes_end}
use Rattle.replay.proofs.lent.bytes_of.Goals as goal

pub loop-word-init : goal.loop-word-init
loop-word-init c = left_all (omega arith) (omega arith)

pub loop-word-preserved : goal.loop-word-preserved
loop-word-preserved c =
    let l = c.loop-word in
    left_turn l.invariant (bytes_next 8 c.args.words.now l.word-index c.loop-word-test.true) c.put_le-at.ensures

pub returns : goal.returns
returns c = (left_none c.loop-word.invariant (bytes_end 8 c.args.words.now c.loop-word.word-index c.loop-word-test.false)).bytes
