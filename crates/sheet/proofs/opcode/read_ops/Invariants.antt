use Rattle.sheet.specs.NameFilter.{Filtered}
use Rattle.sheet.proofs.OpsLoop.{Going}
use Rattle.sheet.proofs.opcode.read_ops.Given as goal

abbrev pub invariant-loop-i : goal.invariant-loop-i
invariant-loop-i l = Going l.s l.types l.ops l.from l.count l.at l.least l.i × Filtered l.s l.filter l.ops
