use Rattle.std.proofs.Common.{◌≡◌, ◌++◌, length, drop}
use Rattle.replay.specs.Words.{numbers_in}
use Rattle.replay.proofs.assembling.ends_of.Given as goal

abbrev pub invariant-loop-i : goal.invariant-loop-i
invariant-loop-i l = (length l.ends ≡ length l.initial.ends) × (l.ends ≡ numbers_in 4 l.i l.s ++ drop l.i l.initial.ends)
