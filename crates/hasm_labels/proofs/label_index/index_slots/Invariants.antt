use mathlib.Core.Path.{◌≡◌}
use mathlib.Core.Bool.{false}
use lib.ListN.{length, take}
use Rattle.hasm_labels.specs.Slots.{labels_in}
use Rattle.hasm_labels.specs.Keys.{LabelsIndexed}
use Rattle.hasm_labels.proofs.label_index.index_slots.Given as goal

abbrev pub invariant-loop-k : goal.invariant-loop-k
invariant-loop-k l = LabelsIndexed false l.text l.labels l.index l.m (labels_in l.text (take l.k l.labels)) × (length l.index ≡ length l.initial.index)
