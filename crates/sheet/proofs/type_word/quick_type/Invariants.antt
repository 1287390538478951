use Prim.Native.Nat.{◌≤◌}
use Rattle.sheet.proofs.type_word.quick_type.Given as goal

abbrev pub invariant-loop-n : goal.invariant-loop-n
invariant-loop-n l = l.n ≤ 8
