use Rattle.std.proofs.Common.{sym, arith}
use Rattle.lists.proofs.Writes.{same_piece}
use Rattle.numbers.proofs.HexTurns.{hex_four, hex_more}
use Rattle.numbers.proofs.print_hex.put_hex4.Goals as goal

pub returns-then-n-lt65536 : goal.returns-then-n-lt65536
returns-then-n-lt65536 c =
    same_piece (sym (hex_four _ _ c.if-n-lt65536.true)) c.put_four.ensures

pub returns : goal.returns
returns c =
    same_piece (sym (hex_more _ _ c.if-n-lt65536.false (omega arith))) c.put_hex.ensures
