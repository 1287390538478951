use Rattle.std.proofs.Common.{sym, arith}
use Rattle.lists.proofs.Writes.{◌then◌, same_piece}
use Rattle.numbers.specs.Digits.{square}
use Rattle.numbers.proofs.BaseTurns.{last_two, front_within}
use Rattle.numbers.proofs.print_digits.put_small.Goals as goal

pub returns : goal.returns
returns g c fuel h l =
    let front = front_within g.row.BASE c.args.letter (omega arith) fuel h c.args.n l (square g.row.BASE) in
    same_piece (sym (last_two g.row.BASE c.args.letter (omega arith) fuel h c.args.n l (omega arith))) (c.put_few-k.ensures fuel h front then c.put_two.ensures)
