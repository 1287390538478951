use native.Mathlib.Omega.{arith}
use Rattle.lists.proofs.Clears.{clear_turn}
use Rattle.slices.proofs.clearing.clear.Goals as goal

pub loop-x-preserved : goal.loop-x-preserved
loop-x-preserved g c = let l = c.loop-x in clear_turn c.args.zero c.args.out.now l.out l.x-index l.invariant (omega arith)
