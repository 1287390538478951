use mathlib.Core.List.{List}
use lib.ListN.{length}
use Rattle.spec_hasm.specs.Assemble.{LabelAt}
use Rattle.hash_index.specs.Backward.{WalkBack}
use Rattle.hasm_labels.specs.Keys.{bucket_at, LabelsIndexed, offset_below}
use Rattle.hasm_labels.proofs.label_target.Labels.find_indexed.Given as goal

abbrev pub invariant-loop-k : goal.invariant-loop-k
invariant-loop-k l = (ls : List LabelAt) → LabelsIndexed l.self.known.owned l.self.source.text.now l.self.slots.now l.self.index.now l.self.known.heads ls → WalkBack (bucket_at l.self.known.heads ls) (length ls) l.h (offset_below ls l.t) l.k

abbrev pub decreases-loop-k : goal.decreases-loop-k
decreases-loop-k l = l.k
