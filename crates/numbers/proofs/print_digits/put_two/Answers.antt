use Rattle.lists.proofs.Writes.{◌then◌, same_piece}
use Rattle.numbers.proofs.print_digits.put_two.Goals as goal

pub returns : goal.returns
returns g c = same_piece (rw (c.digit_char.ensures, c.digit_char-2.ensures)) (c.put_byte-k.ensures then c.put_byte.ensures)
