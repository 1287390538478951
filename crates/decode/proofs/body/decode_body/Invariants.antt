use Prim.Native.Nat.{◌-◌}
use lib.ListN.{length}
use Rattle.decode.proofs.BodyLoop.{Going}
use Rattle.decode.proofs.body.decode_body.Given as goal

abbrev pub invariant-loop-at : goal.invariant-loop-at
invariant-loop-at l = Going l.types l.last l.s l.initial.out l.out l.n l.at

abbrev pub decreases-loop-at : goal.decreases-loop-at
decreases-loop-at l = length l.s - l.at
