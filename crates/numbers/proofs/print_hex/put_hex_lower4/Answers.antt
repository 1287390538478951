use Rattle.spec_numbers.specs.Print.{hex_lower, hex_lower4}
use Rattle.numbers.proofs.print_hex.put_hex_lower4.Goals as goal

pub returns : goal.returns
unfolding hex_lower4 hex_lower
returns c = c.put_hex4.ensures
