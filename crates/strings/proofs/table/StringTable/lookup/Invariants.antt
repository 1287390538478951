use mathlib.Core.Path.{◌≡◌}
use Prim.Native.Nat.{◌≤◌}
use lib.ListN.{length, drop}
use Rattle.spec_strings.specs.Table.{lookup_from, lookup}
use Rattle.strings.proofs.table.StringTable.lookup.Given as goal

abbrev pub invariant-loop-i : goal.invariant-loop-i
invariant-loop-i l = (l.i ≤ length l.self.ends.now) × (lookup l.text l.self.bytes.now l.self.ends.now ≡ lookup_from l.text l.self.bytes.now l.start l.i (drop l.i l.self.ends.now))
