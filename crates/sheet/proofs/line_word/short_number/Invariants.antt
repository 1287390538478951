use Rattle.sheet.proofs.ShortNumbers.{Going}
use Rattle.sheet.proofs.line_word.short_number.Given as goal

abbrev pub invariant-loop-i : goal.invariant-loop-i
invariant-loop-i l x = Going x.s x.at l.row.N x.n x.i
