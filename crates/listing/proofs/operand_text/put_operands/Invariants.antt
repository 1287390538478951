use Rattle.listing.proofs.OperandsLoop.{Going}
use Rattle.listing.proofs.operand_text.put_operands.Given as goal

abbrev pub invariant-loop-i : goal.invariant-loop-i
invariant-loop-i l = Going l.lister.options.resolve_strings l.lister.strings.bytes.now l.lister.strings.ends.now l.s l.code-items l.at l.initial.out l.k l.out l.n l.p l.i
