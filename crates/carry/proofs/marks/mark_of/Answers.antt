use native.Mathlib.Omega.{arith}
use Rattle.carry.specs.Marks.{mark_of}
use Rattle.carry.proofs.marks.mark_of.Goals as goal

pub returns-in-Some : goal.returns-in-Some
unfolding mark_of
returns-in-Some c = rw c.in-Some.is (omega arith)

pub returns-in-None : goal.returns-in-None
unfolding mark_of
returns-in-None c = rw c.in-None.is
