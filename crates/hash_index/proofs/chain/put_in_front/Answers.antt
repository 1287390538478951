use native.Mathlib.Omega.{arith}
use lib.ListN.{length-set}
use Rattle.hash_index.proofs.chain.put_in_front.Goals as goal

pub bounds-index-h-2 : goal.bounds-index-h-2
bounds-index-h-2 c = simp length-set (omega arith)
