use mathlib.Core.Path.{◌≡◌}
use lib.ListN.{take, drop}
use Prim.Native.Nat.{◌*◌, ◌≤◌}
use Rattle.encode.specs.RecordPlaces.{pairs_at}
use Rattle.encode.specs.Canonical.{canonical_pairs}
use Rattle.encode.proofs.canonical.canonical_front.Given as goal

abbrev pub invariant-loop-j : goal.invariant-loop-j
invariant-loop-j l = (l.j ≤ 4) × (canonical_pairs (take 4 l.row) (pairs_at l.words l.at) ≡ canonical_pairs (drop l.j (take 4 l.row)) (drop (2 * l.j) (pairs_at l.words l.at)))
