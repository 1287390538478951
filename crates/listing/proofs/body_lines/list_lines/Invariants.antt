use Rattle.listing.proofs.LinesLoop.{Going, printing}
use Rattle.listing.specs.Parts.{records_of}
use Rattle.listing.specs.Listers.{decoded_by}
use lib.ListN.{length}
use Prim.Native.Nat.{◌-◌}
use Rattle.listing.proofs.body_lines.list_lines.Given as goal

abbrev pub invariant-loop-at : goal.invariant-loop-at
invariant-loop-at l = Going (printing l.lister l.s l.flags l.indent) (records_of (decoded_by l.lister l.s)) l.initial.out l.from l.out l.block l.k l.n l.at

abbrev pub decreases-loop-at : goal.decreases-loop-at
decreases-loop-at l = length l.s - l.at
