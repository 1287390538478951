use mathlib.Core.Path.{◌≡◌}
use lib.ListN.{drop}
use lib.Dec.{eqb}
use Prim.Native.Nat.{◌≤◌}
use Rattle.lists.specs.Choice.{both}
use Rattle.encode.specs.RecordPlaces.{record_at}
use Rattle.encode.specs.Canonical.{all_zero}
use Rattle.encode.proofs.canonical.bare_words.Given as goal

abbrev pub invariant-loop-j : goal.invariant-loop-j
invariant-loop-j l = (l.j ≤ 20) × (all_zero (drop 12 (record_at l.words l.at)) ≡ both (eqb l.met 0) (all_zero (drop l.j (record_at l.words l.at))))
