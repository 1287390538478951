use Rattle.assemble.proofs.OperandsLoop.{Going}
use Rattle.assemble.specs.Contexts.{under, labels_under}
use Rattle.assemble.proofs.operands.put_operands.Given as goal

abbrev pub invariant-loop-i : goal.invariant-loop-i
invariant-loop-i l = Going (under l.context) (labels_under l.context) l.offset l.s l.fn.row l.initial.out l.initial.n l.out l.n l.p l.i-counter
