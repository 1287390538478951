use Rattle.std.proofs.Common.{sym, arith}
use Rattle.lists.proofs.Writes.{◌then◌, same_piece}
use Rattle.numbers.proofs.HexTurns.{hex_sixteen}
use Rattle.numbers.proofs.print_hex.put_hex_upper16.Goals as goal

pub returns : goal.returns
returns c =
    same_piece (sym (hex_sixteen _ (omega arith))) (c.put_eight-k.ensures then c.put_eight.ensures)
