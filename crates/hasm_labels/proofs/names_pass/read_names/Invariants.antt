use lib.ListN.{length, drop}
use Prim.Native.Nat.{ℕ, ◌-◌}
use mathlib.Core.List.{List}
use mathlib.Core.Path.{◌≡◌}
use Rattle.hasm_read.specs.Lines.{ShortLines}
use Rattle.hasm_labels.specs.Sources.{context_of}
use Rattle.hasm_labels.specs.Owning.{Owning}
use Rattle.hasm_labels.proofs.names_pass.read_names.Given as goal

abbrev pub invariant-loop-at : goal.invariant-loop-at
invariant-loop-at l =
    ((bytes ends : List ℕ) → Owning (context_of l.source bytes ends) l.source.text.now l.t l.initial.labels l.at l.n l.p l.labels l.m l.indexed l.index)
    × (length l.labels ≡ length l.initial.labels) × ShortLines (drop l.at l.source.text.now) × (length l.index ≡ length l.initial.index)

abbrev pub decreases-loop-at : goal.decreases-loop-at
decreases-loop-at l = length l.source.text.now - l.at
