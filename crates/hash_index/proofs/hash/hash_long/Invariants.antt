use mathlib.Core.Path.{◌≡◌}
use Prim.Native.Nat.{◌-◌, ◌/◌, ◌%◌, ◌≤◌, ◌<◌}
use lib.ListN.{length, drop}
use Rattle.hash_index.specs.Hash.{hash_from}
use Rattle.hash_index.proofs.HashLaws.{words_from}
use Rattle.hash_index.proofs.hash.hash_long.Given as goal

abbrev pub invariant-loop-i : goal.invariant-loop-i
invariant-loop-i l = (l.i ≤ length l.s) × (l.h < 4294967296) × (hash_from (length l.s % 4294967296) l.s ((length l.s - 1) / 4) ≡ hash_from l.h (drop l.i l.s) (words_from l.s l.i))

abbrev pub decreases-loop-i : goal.decreases-loop-i
decreases-loop-i l = length l.s - l.i
