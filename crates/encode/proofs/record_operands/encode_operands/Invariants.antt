use Rattle.encode.proofs.OperandsLoop.{Going}
use Prim.Native.Nat.{◌*◌}
use Rattle.encode.proofs.record_operands.encode_operands.Given as goal

abbrev pub invariant-loop-j : goal.invariant-loop-j
invariant-loop-j l = Going l.row l.words (20 * l.fn.i) l.initial.out l.from l.out l.k l.j
