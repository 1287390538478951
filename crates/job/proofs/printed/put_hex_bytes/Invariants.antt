use Rattle.lists.specs.Write.{Put}
use Rattle.spec_job.specs.Printed.{hex_of}
use lib.ListN.{length, take}
use Prim.Native.Nat.{◌*◌}
use mathlib.Core.Path.{◌≡◌}
use Rattle.job.proofs.printed.put_hex_bytes.Given as goal

abbrev pub invariant-loop-b : goal.invariant-loop-b
invariant-loop-b l = Put l.initial.out l.at (hex_of (take l.b-index l.s)) l.out l.k × (length (hex_of (take l.b-index l.s)) ≡ 2 * l.b-index)
