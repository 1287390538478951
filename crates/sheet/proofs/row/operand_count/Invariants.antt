use Rattle.spec_sheet.specs.Row.{sum_by, one_for}
use lib.ListN.{take}
use Prim.Native.Nat.{◌≤◌}
use mathlib.Core.Path.{◌≡◌}
use Rattle.sheet.proofs.row.operand_count.Given as goal

abbrev pub invariant-loop-i : goal.invariant-loop-i
invariant-loop-i l = (l.i ≤ 8) × (l.n ≤ l.i) × (l.n ≡ sum_by one_for (take l.i l.row))
