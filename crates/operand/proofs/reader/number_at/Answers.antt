use Rattle.std.proofs.Common.{arith}
use Rattle.operand.proofs.ReaderLaws.{all_there, cut_short}
use Rattle.operand.proofs.reader.number_at.Goals as goal

pub returns-then-at-s-clause-number : goal.returns-then-at-s-clause-number
returns-then-at-s-clause-number c = (all_there c.args.s.now c.args.at c.args.n (omega arith) _ c.read_le.ensures (λ i. (c.type_inv.s i).fits)).0

pub returns-then-at-s-clause-below : goal.returns-then-at-s-clause-below
returns-then-at-s-clause-below c = (all_there c.args.s.now c.args.at c.args.n (omega arith) _ c.read_le.ensures (λ i. (c.type_inv.s i).fits)).1

pub returns-clause-number : goal.returns-clause-number
returns-clause-number c = cut_short c.args.s.now c.args.at c.args.n (omega arith)
