use Rattle.decode.proofs.OperandLoop.{Going}
use Rattle.decode.proofs.record.Instruction.put_values.Given as goal

abbrev pub invariant-loop-i : goal.invariant-loop-i
invariant-loop-i l = Going l.self.row l.self.body.now l.initial.out l.out l.k l.self.at l.p l.i
