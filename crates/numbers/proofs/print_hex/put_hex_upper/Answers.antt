use Rattle.spec_numbers.specs.Print.{hex_upper}
use Rattle.numbers.proofs.print_hex.put_hex_upper.Goals as goal

pub returns : goal.returns
unfolding hex_upper
returns c = c.put_hex.ensures
