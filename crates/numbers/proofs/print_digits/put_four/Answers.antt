use Rattle.lists.proofs.Writes.{◌then◌}
use Rattle.numbers.proofs.print_digits.put_four.Goals as goal

pub returns : goal.returns
returns g c = c.put_two-k.ensures then c.put_two.ensures
