use Rattle.spec_sheet.specs.Scan.{is_name_byte}
use Rattle.lists.specs.Scan.{run}
use lib.ListN.{length, drop}
use Prim.Native.Nat.{◌+◌, ◌-◌, ◌≤◌}
use mathlib.Core.Path.{◌≡◌}
use Rattle.sheet.proofs.scan.count_name.Given as goal

abbrev pub invariant-loop-w : goal.invariant-loop-w
invariant-loop-w l = (l.at ≤ l.i) × (l.i - l.at ≤ length l.s - l.at) × (l.at + run is_name_byte (drop l.at l.s) ≡ l.i + run is_name_byte (drop l.i l.s))

abbrev pub decreases-loop-w : goal.decreases-loop-w
decreases-loop-w l = length l.s - l.i
