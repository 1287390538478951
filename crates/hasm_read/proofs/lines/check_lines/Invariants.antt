use lib.ListN.{length}
use Prim.Native.Nat.{◌-◌}
use Rattle.hasm_read.proofs.CheckLaws.{Going}
use Rattle.hasm_read.proofs.lines.check_lines.Given as goal

abbrev pub invariant-loop-at : goal.invariant-loop-at
invariant-loop-at l = Going l.text l.at l.n

abbrev pub decreases-loop-at : goal.decreases-loop-at
decreases-loop-at l = length l.text - l.at
