use Rattle.encode.specs.RecordPlaces.{pairs_at}
use Rattle.spec_body.specs.Encode.{good_pairs}
use lib.ListN.{drop}
use Prim.Native.Nat.{◌-◌, ◌*◌, ◌≤◌}
use mathlib.Core.Path.{◌≡◌}
use Rattle.encode.proofs.record_shape.good_pairs.Given as goal

abbrev pub invariant-loop-i : goal.invariant-loop-i
invariant-loop-i l = (l.i ≤ 8) × (good_pairs 8 l.count (pairs_at l.words l.at) ≡ good_pairs (8 - l.i) l.left (drop (2 * l.i) (pairs_at l.words l.at)))
