use Rattle.lists.specs.Scan.{opens}
use lib.ListN.{length, drop}
use Prim.Native.Nat.{◌+◌, ◌≤◌}
use mathlib.Core.Path.{◌≡◌}
use Rattle.slices.proofs.compare.opens_at.Given as goal

abbrev pub invariant-loop-i : goal.invariant-loop-i
invariant-loop-i l = (l.i ≤ length l.p) × (l.at + length l.p ≤ length l.s) × (opens l.p (drop l.at l.s) ≡ opens (drop l.i l.p) (drop (l.at + l.i) l.s))
