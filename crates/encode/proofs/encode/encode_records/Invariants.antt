use Rattle.encode.proofs.RecordsLoop.{Going}
use Rattle.encode.proofs.encode.encode_records.Given as goal

abbrev pub invariant-loop-i : goal.invariant-loop-i
invariant-loop-i l = Going l.types l.last l.words l.initial.out l.out l.k l.i
