use Rattle.carry.specs.Plans.{Planning}
use Rattle.carry.proofs.OperandLoop.{Going}
use Rattle.carry.proofs.instructions.carry_operands.Given as goal

abbrev pub invariant-loop-j : goal.invariant-loop-j
invariant-loop-j l =
    (g : Planning l.plans l.s l.place.old) → Going g.row g.row' l.s l.place.old l.place.new l.marks.places.now l.marks.ids.now l.initial.block l.k l.block l.next l.far l.p l.j
