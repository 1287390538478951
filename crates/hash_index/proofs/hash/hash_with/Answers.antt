use mathlib.Core.Path.{refl}
use native.Mathlib.Nat.{mod-lt}
use native.Mathlib.Omega.{arith}
use Rattle.hash_index.specs.Hash.{hash_with}
use Rattle.hash_index.proofs.hash.hash_with.Goals as goal

pub returns : goal.returns
unfolding hash_with
returns c = (refl, mod-lt _ (omega arith))
