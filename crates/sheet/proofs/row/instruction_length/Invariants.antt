use Rattle.spec_sheet.specs.Types.{width_of}
use Rattle.spec_sheet.specs.Row.{sum_by}
use lib.ListN.{take}
use Prim.Native.Nat.{◌+◌, ◌*◌, ◌≤◌}
use mathlib.Core.Path.{◌≡◌}
use Rattle.sheet.proofs.row.instruction_length.Given as goal

abbrev pub invariant-loop-i : goal.invariant-loop-i
invariant-loop-i l = (l.i ≤ 8) × (l.n ≤ 1 + 8 * l.i) × (l.n ≡ 1 + sum_by width_of (take l.i l.row))
