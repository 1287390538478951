use Rattle.std.proofs.Common.{◌≡◌, ◌+◌, ◌-◌}
use Rattle.lists.specs.Scan.{part}
use Rattle.spec_numbers.specs.LittleEndian.{le}
use Rattle.numbers.proofs.little_endian.read_bytes.Given as goal

abbrev pub invariant-loop-k : goal.invariant-loop-k
invariant-loop-k l = l.v ≡ le (part l.s (l.at + l.k) (l.n - l.k))
