use Rattle.assemble.proofs.BodyTurns.{Body}
use Rattle.assemble.specs.Contexts.{under, labels_under}
use lib.ListN.{length}
use Prim.Native.Nat.{◌-◌}
use Rattle.assemble.proofs.body.put_instructions.Given as goal

abbrev pub invariant-loop-at : goal.invariant-loop-at
invariant-loop-at l = Body (under l.context) (labels_under l.context) l.text l.initial.out l.out l.at l.n l.place

abbrev pub decreases-loop-at : goal.decreases-loop-at
decreases-loop-at l = length l.text - l.at
