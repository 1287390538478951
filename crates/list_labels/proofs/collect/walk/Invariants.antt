use Prim.Native.Nat.{◌-◌}
use lib.ListN.{length}
use Rattle.list_labels.specs.Notes.{notes_of}
use Rattle.list_labels.specs.OpcodeRows.{opcodes_of}
use Rattle.list_labels.proofs.WalkLoop.{Going}
use Rattle.list_labels.proofs.collect.walk.Given as goal

abbrev pub invariant-loop-at : goal.invariant-loop-at
invariant-loop-at l = Going (opcodes_of l.body.types.now l.body.rows.now) l.body.last l.s (notes_of l.initial.flags l.initial.stored l.initial.counts) (notes_of l.flags l.stored l.counts) l.at

abbrev pub decreases-loop-at : goal.decreases-loop-at
decreases-loop-at l = length l.s - l.at
