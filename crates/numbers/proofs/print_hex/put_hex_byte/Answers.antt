use Rattle.std.proofs.Common.{sym, arith}
use Rattle.lists.proofs.Writes.{same_piece}
use Rattle.spec_numbers.specs.Print.{hex_upper}
use Rattle.numbers.proofs.HexTurns.{hex_pair}
use Rattle.numbers.proofs.print_hex.put_hex_byte.Goals as goal

pub returns : goal.returns
unfolding hex_upper
returns c = same_piece (sym (hex_pair 65 _ (omega arith))) c.put_two.ensures
