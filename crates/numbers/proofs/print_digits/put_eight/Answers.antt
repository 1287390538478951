use Rattle.lists.proofs.Writes.{◌then◌}
use Rattle.numbers.proofs.print_digits.put_eight.Goals as goal

pub returns : goal.returns
returns g c = c.put_four-k.ensures then c.put_four.ensures
