use mathlib.Core.Path.{◌≡◌}
use mathlib.Core.List.{[]}
use lib.ListN.{length, get_or}
use Prim.Native.Nat.{ℕ, ◌+◌, ◌≤◌, ◌<◌}
use Rattle.encode.specs.Canonical.{canonical_count}
use Rattle.encode.proofs.canonical.canonical_counts.Given as goal

abbrev pub invariant-loop-op : goal.invariant-loop-op
invariant-loop-op l = (l.op ≤ l.last + 1) × (length l.counts ≡ 256) × ((o : ℕ) → o < l.op → get_or l.counts o 0 ≡ canonical_count (get_or l.types o []))
