use lib.ListN.{take}
use Rattle.encode.proofs.CanonicalWrites.{Going}
use Rattle.encode.proofs.canonical.put_operands.Given as goal

abbrev pub invariant-loop-j : goal.invariant-loop-j
invariant-loop-j l = Going (take 4 l.row) l.words l.at l.initial.out l.from l.out l.k l.j
