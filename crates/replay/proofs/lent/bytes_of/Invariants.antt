use Rattle.std.proofs.Common.{drop}
use Rattle.lists.proofs.LeftToWrite.{Left}
use Rattle.replay.specs.Words.{bytes_of}
use Rattle.replay.proofs.lent.bytes_of.Given as goal

abbrev pub invariant-loop-word : goal.invariant-loop-word
invariant-loop-word l = Left (bytes_of 8 l.words) l.initial.out 0 (bytes_of 8 (drop l.word-index l.words)) l.out l.at
