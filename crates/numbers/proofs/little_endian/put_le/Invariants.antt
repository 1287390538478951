use Rattle.std.proofs.Common.{◌≡◌, ℕ, ◌-◌, ◌≤◌, List, length}
use Rattle.lists.specs.Write.{Put, top}
use Rattle.spec_numbers.specs.LittleEndian.{le_bytes}
use Rattle.numbers.proofs.little_endian.put_le.Given as goal

abbrev pub invariant-loop : goal.invariant-loop
invariant-loop l =
    (l.k ≤ top) × (length l.out ≡ length l.initial.out)
    × ((o : List ℕ) (r : ℕ) → Put l.out l.k (le_bytes (l.w - l.counter) l.rest) o r → Put l.initial.out l.at (le_bytes l.w l.v) o r)
