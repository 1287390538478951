use Prim.Native.Nat.{◌-◌}
use lib.ListN.{length}
use Rattle.carry.proofs.PlaceLoop.{Going}
use Rattle.carry.proofs.places.mark_places.Given as goal

abbrev pub invariant-loop-at : goal.invariant-loop-at
invariant-loop-at l = Going l.rows l.last l.s l.initial.map l.map l.new l.n l.at

abbrev pub decreases-loop-at : goal.decreases-loop-at
decreases-loop-at l = length l.s - l.at
