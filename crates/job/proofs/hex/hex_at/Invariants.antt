use Rattle.job.proofs.HexLoop.{Going}
use lib.ListN.{length}
use Prim.Native.Nat.{◌-◌}
use Rattle.job.proofs.hex.hex_at.Given as goal

abbrev pub invariant-loop-at : goal.invariant-loop-at
invariant-loop-at l = Going l.s l.start l.initial.out l.from l.out l.k l.at

abbrev pub decreases-loop-at : goal.decreases-loop-at
decreases-loop-at l = length l.s - l.at
