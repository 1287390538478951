use Rattle.list_labels.proofs.PartLoop.{Going}
use Rattle.list_labels.proofs.distinct.part.Given as goal

abbrev pub invariant-loop-i : goal.invariant-loop-i
invariant-loop-i l = Going l.bound l.initial.a l.initial.spare l.a l.spare l.n l.i
