use Rattle.lists.proofs.Writes.{◌then◌}
use Rattle.lists.specs.Text.{text}
use Rattle.spec_numbers.specs.Double.{hex_mark}
use Rattle.numbers.proofs.print_double.put_bits.Goals as goal

pub returns : goal.returns
unfolding hex_mark text
returns c =
    c.put_bytes-k.ensures then c.put_hex_upper16.ensures
