use Rattle.lists.specs.Write.{ByWords}
use Rattle.lists.specs.Scan.{part}
use Rattle.std.proofs.Common.{◌+◌, ◌-◌, ◌≤◌}
use Rattle.numbers.proofs.words.put_rest.Given as goal

abbrev pub invariant-loop-done : goal.invariant-loop-done
invariant-loop-done l = (l.from ≤ l.done) × (l.done ≤ l.n) × ByWords l.initial.out l.to (part l.s (l.at + l.from) (l.done - l.from)) l.out l.k

abbrev pub decreases-loop-done : goal.decreases-loop-done
decreases-loop-done l = l.n - l.done
