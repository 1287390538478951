use Rattle.sheet.proofs.TypesLoop.{Going}
use Rattle.sheet.proofs.line.types_from.Given as goal

abbrev pub invariant-loop-i : goal.invariant-loop-i
invariant-loop-i l = Going l.s l.row l.from l.at l.i
