use Rattle.spec_numbers.specs.Print.{hex_upper, hex_upper4}
use Rattle.numbers.proofs.print_hex.put_hex_upper4.Goals as goal

pub returns : goal.returns
unfolding hex_upper4 hex_upper
returns c = c.put_hex4.ensures
