use Rattle.replay.specs.Turns.{Agreed}
use Rattle.replay.proofs.replay.Given as goal

abbrev pub invariant-loop-agreed : goal.invariant-loop-agreed
invariant-loop-agreed l = Agreed l.agreed l.used l.sheet
