use lib.ListN.{length-set}
use native.Mathlib.Omega.{arith}
use Rattle.decode.proofs.pair.put_pair.Goals as goal

pub bounds-out-k-2 : goal.bounds-out-k-2
bounds-out-k-2 g c = simp length-set (omega arith)
