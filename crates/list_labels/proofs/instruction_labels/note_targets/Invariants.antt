use Rattle.list_labels.proofs.TargetsLoop.{Going}
use Rattle.list_labels.specs.Notes.{notes_of}
use Rattle.list_labels.proofs.instruction_labels.note_targets.Given as goal

abbrev pub invariant-loop-code : goal.invariant-loop-code
invariant-loop-code l = Going l.code-items l.s l.at (notes_of l.initial.flags l.initial.stored l.initial.c) (notes_of l.flags l.stored l.c) l.p l.code-index
