use Prim.Native.Nat.{◌-◌}
use lib.ListN.{length}
use Rattle.carry.specs.Ready.{Planned}
use Rattle.carry.proofs.InstructionLoop.{Going}
use Rattle.carry.proofs.instructions.carry_instructions.Given as goal

abbrev pub invariant-loop-at : goal.invariant-loop-at
invariant-loop-at l =
    (g : Planned l.plans l.rows l.s l.marks.places.now l.marks.ids.now)
    → Going g.types g.types₂ l.rows g.last l.s l.marks.places.now l.marks.ids.now l.initial.out l.out l.block l.k l.n l.new l.i l.first l.at

abbrev pub decreases-loop-at : goal.decreases-loop-at
decreases-loop-at l = length l.s - l.at
