use mathlib.Core.Path.{◌≡◌}
use Prim.Native.Nat.{◌≤◌}
use lib.ListN.{length}
use Rattle.decode.proofs.PlanLoop.{Four}
use Rattle.decode.proofs.record.Instruction.put_four.Given as goal

abbrev pub invariant-loop-i : goal.invariant-loop-i
invariant-loop-i l = (l.i ≤ 4) × (length l.out ≡ length l.initial.out) × Four l.self.plan.now l.self.body.now l.initial.out l.out l.k l.self.at l.from l.i
