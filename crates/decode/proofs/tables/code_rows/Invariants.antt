use Prim.Native.Nat.{◌≤◌}
use mathlib.Core.Path.{◌≡◌}
use Rattle.decode.specs.Tables.{code_row}
use Rattle.sheet.proofs.Filled.{Filled}
use Rattle.decode.proofs.tables.code_rows.Given as goal

abbrev pub invariant-loop-c : goal.invariant-loop-c
invariant-loop-c l = (l.c ≤ 13) × Filled (λ c row. row ≡ code_row c) l.initial.rows l.rows l.c
