use Rattle.std.proofs.Common.{sym, arith}
use Rattle.lists.proofs.Writes.{◌then◌, same_piece}
use Rattle.numbers.proofs.BaseTurns.{last_eight}
use Rattle.numbers.proofs.print_hex.put_hex.Goals as goal

pub returns-then-n-lt4294967296 : goal.returns-then-n-lt4294967296
returns-then-n-lt4294967296 c = c.put_middle.ensures 16 (omega arith) (omega arith)

pub returns : goal.returns
returns c =
    let a = c.args in
    same_piece (sym (last_eight 16 a.letter (omega arith) 16 (omega arith) a.n (omega arith) c.if-n-lt4294967296.false)) (c.put_middle-k.ensures 16 (omega arith) (omega arith) then c.put_eight.ensures)
