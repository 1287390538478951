use lib.ListN.{length}
use Rattle.carry.proofs.Filling.{Filled}
use Rattle.carry.proofs.IdLaws.{IdMade}
use Rattle.carry.proofs.ids.translate.Given as goal

abbrev pub invariant-loop-id : goal.invariant-loop-id
invariant-loop-id l = Filled 0 (IdMade l.strings.bytes.now l.strings.ends.now l.into.strings.bytes.now l.into.strings.ends.now) (length l.strings.ends.now) l.ids l.id
