use Rattle.job.proofs.StringsLoop.{Going}
use Rattle.job.proofs.table.strings_from.Given as goal

abbrev pub invariant-loop-i : goal.invariant-loop-i
invariant-loop-i l = Going l.s l.start l.count l.initial.bytes l.initial.ends l.bytes l.ends l.at l.size l.i
