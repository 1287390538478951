use mathlib.Core.Path.{sym}
use Rattle.lists.proofs.Writes.{◌then◌, same_piece}
use Rattle.strings.proofs.escapes.put_escaped.Goals as goal

pub returns : goal.returns
returns c = same_piece (sym (rw c.in-Some.is at c.letter_of.ensures)) (c.put_byte-a.ensures then c.put_byte.ensures)
