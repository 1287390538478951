use Rattle.lists.proofs.Clears.{Cleared}
use Rattle.slices.proofs.clearing.clear.Given as goal

abbrev pub invariant-loop-x : goal.invariant-loop-x
invariant-loop-x g l = Cleared l.fn.zero l.initial.out l.out l.x-index
