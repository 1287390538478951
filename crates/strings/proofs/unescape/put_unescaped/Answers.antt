use native.Mathlib.Omega.{arith}
use Rattle.lists.proofs.LeftToWrite.{left_all, left_turn, left_none}
use Rattle.strings.proofs.UnescapeTurns.{read_turn, read_end}
use Rattle.strings.proofs.unescape.put_unescaped.Goals as goal

pub loop-b-init : goal.loop-b-init
loop-b-init c = left_all (omega arith) (omega arith)

pub loop-b-preserved : goal.loop-b-preserved
loop-b-preserved c = left_turn c.loop-b.invariant (read_turn _ _ _ c.loop-b-test.true c.slash_after-slash.ensures) c.put_read-k.ensures

pub shape_of-out : goal.shape_of-out
shape_of-out c = c.loop-b.invariant.same_size

pub returns : goal.returns
returns c = left_none c.loop-b.invariant (read_end _ _ _ c.loop-b-test.false)
