use Rattle.std.proofs.Common.{sym, arith}
use Rattle.lists.proofs.Writes.{◌then◌, same_piece}
use Rattle.spec_numbers.specs.Print.{decimal}
use Rattle.numbers.proofs.BaseTurns.{last_eight}
use Rattle.numbers.proofs.print_decimal.put_decimal.Goals as goal

pub returns-then-n-lt100000000 : goal.returns-then-n-lt100000000
unfolding decimal
returns-then-n-lt100000000 c = c.put_middle.ensures 20 (omega arith) (omega arith)

pub returns : goal.returns
unfolding decimal
returns c =
    same_piece (sym (last_eight 10 97 (omega arith) 20 (omega arith) c.args.n (omega arith) c.if-n-lt100000000.false)) (c.put_large-k.ensures then c.put_eight.ensures)
