use mathlib.Core.Path.{sym}
use borrow.Author.Tests.{le-leb, lt-leb}
use Rattle.lists.proofs.Writes.{◌then◌, same_piece}
use Rattle.spec_strings.specs.Escape.{unicode}
use Rattle.strings.proofs.escapes.put_unicode.Goals as goal

pub returns-then-c-le65535 : goal.returns-then-c-le65535
unfolding unicode
returns-then-c-le65535 c =
    same_piece (sym (rw (le-leb _ _ c.if-c-le65535.true))) (c.put_bytes-a.ensures then c.put_hex_upper4.ensures)

pub returns : goal.returns
unfolding unicode
returns c =
    same_piece (sym (rw (lt-leb _ _ c.if-c-le65535.false))) (c.put_bytes-a-2.ensures then c.put_hex_upper-b.ensures then c.put_byte.ensures)
