use mathlib.Core.Path.{◌≡◌}
use Prim.Native.Nat.{◌-◌, ◌+◌, ◌≤◌}
use lib.ListN.{length, drop}
use Rattle.spec_hasm.specs.Split.{split_outside, tokens}
use Rattle.hasm_read.proofs.commas.count_operands.Given as goal

abbrev pub invariant-loop-last : goal.invariant-loop-last
invariant-loop-last l = (l.n ≤ l.at) × (l.at ≤ length l.s) × (length (tokens (split_outside l.s)) ≡ l.n + length (tokens (split_outside (drop l.at l.s))))

abbrev pub decreases-loop-last : goal.decreases-loop-last
decreases-loop-last l = length l.s - l.at
