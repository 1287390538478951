use Rattle.lists.proofs.Writes.{◌then◌}
use Rattle.lists.specs.Text.{text}
use Rattle.spec_numbers.specs.Double.{infinity_text}
use Rattle.numbers.proofs.print_double.put_infinity.Goals as goal

pub returns : goal.returns
unfolding infinity_text text
returns c =
    c.put_sign-k.ensures then c.put_bytes.ensures
