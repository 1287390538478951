use mathlib.Core.Path.{◌≡◌}
use Prim.Native.Nat.{◌≤◌}
use lib.ListN.{length, drop}
use Rattle.spec_strings.specs.Table.{fault_from, fault}
use Rattle.strings.proofs.table.StringTable.walk_entries.Given as goal

abbrev pub invariant-loop-i : goal.invariant-loop-i
invariant-loop-i l = (l.i ≤ length l.self.ends.now) × (fault l.self.bytes.now l.self.ends.now ≡ fault_from l.self.bytes.now l.start l.i (drop l.i l.self.ends.now))
