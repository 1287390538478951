use Prim.Native.Nat.{◌-◌}
use Rattle.hash_index.specs.Chain.{Walk}
use Rattle.hash_index.specs.Keys.{bucket_in}
use Rattle.hash_index.proofs.KeyLaws.{answer_from}
use Rattle.hash_index.proofs.keys.find_key.Given as goal

abbrev pub invariant-loop-i : goal.invariant-loop-i
invariant-loop-i g l = Walk (λ i. bucket_in l.m (g.K.Keys.key_at l.keys i)) l.n l.h (answer_from (g.K.Keys.key_at l.keys) l.n l.text) l.i

abbrev pub decreases-loop-i : goal.decreases-loop-i
decreases-loop-i g l = l.n - l.i
