use native.Mathlib.Omega.{arith}
use lib.ListN.{length-set}
use Rattle.hash_index.proofs.backward.put_key.Goals as goal

pub bounds-index-h-2 : goal.bounds-index-h-2
bounds-index-h-2 c = simp length-set (omega arith)
