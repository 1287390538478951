use Rattle.std.proofs.Common.{◌≡◌, ◌++◌, length, drop}
use Rattle.replay.specs.Words.{numbers_in}
use Rattle.replay.proofs.lent.words_of.Given as goal

abbrev pub invariant-loop-i : goal.invariant-loop-i
invariant-loop-i l = (length l.words ≡ length l.initial.words) × (l.words ≡ numbers_in 8 l.i l.s ++ drop l.i l.initial.words)
