use mathlib.Core.Path.{◌≡◌}
use lib.ListN.{drop}
use Prim.Native.Nat.{◌-◌, ◌≤◌}
use Rattle.encode.specs.Canonical.{in_order}
use Rattle.encode.proofs.canonical.in_order.Given as goal

abbrev pub invariant-loop-j : goal.invariant-loop-j
invariant-loop-j l = (l.j ≤ 8) × (in_order l.row l.count ≡ in_order (drop l.j l.row) (l.count - l.j))
