use lib.ListN.{drop}
use Rattle.lists.proofs.LeftToWrite.{Left}
use Rattle.spec_strings.specs.Escape.{unescape}
use mathlib.Core.Bool.{false}
use Rattle.strings.proofs.unescape.put_unescaped.Given as goal

abbrev pub invariant-loop-b : goal.invariant-loop-b
invariant-loop-b l = Left (unescape false l.s) l.initial.out l.at (unescape l.slash (drop l.b-index l.s)) l.out l.k
