use Prim.Native.Nat.{◌<◌}
use lib.ListN.{drop}
use Rattle.lists.proofs.LeftToWrite.{Left}
use Rattle.spec_strings.specs.Escape.{escape_all, escape_text}
use Rattle.spec_strings.specs.Utf8.{chars_from}
use Rattle.spec_strings.proofs.CharLaws.{limit}
use Rattle.strings.specs.States.{state_number}
use Rattle.strings.proofs.escapes.put_characters.Given as goal

abbrev pub invariant-loop-b : goal.invariant-loop-b
invariant-loop-b l = (l.acc < limit (state_number l.state)) × Left (escape_text l.s) l.initial.out l.at (escape_all (chars_from (state_number l.state) l.acc (drop l.b-index l.s))) l.out l.k
