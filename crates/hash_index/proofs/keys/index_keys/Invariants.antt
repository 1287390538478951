use Prim.Native.Nat.{◌≤◌}
use lib.ListN.{length}
use mathlib.Core.Path.{◌≡◌}
use Rattle.hash_index.specs.Keys.{KeysFrom}
use Rattle.hash_index.proofs.keys.index_keys.Given as goal

abbrev pub invariant-loop-i : goal.invariant-loop-i
invariant-loop-i g l = (l.i ≤ l.n) × KeysFrom (g.K.Keys.key_at l.keys) l.m l.n l.i l.index × (length l.index ≡ length l.initial.index)
