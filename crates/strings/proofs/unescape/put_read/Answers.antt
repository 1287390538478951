use mathlib.Core.Path.{sym}
use borrow.Author.Tests.{eq-eqb, ne_eqb}
use native.Mathlib.Omega.{arith}
use Rattle.lists.proofs.Writes.{same_piece, wrote_none}
use Rattle.strings.proofs.unescape.put_read.Goals as goal

pub returns-then-slash : goal.returns-then-slash
returns-then-slash c =
    same_piece (sym (rw (c.if-slash.true, c.meant_by.ensures))) c.put_byte.ensures

pub returns-then-b-eq92 : goal.returns-then-b-eq92
returns-then-b-eq92 c = same_piece (sym (rw (c.if-slash.false, eq-eqb _ _ c.if-b-eq92.true))) (wrote_none (omega arith) (omega arith))

pub returns : goal.returns
returns c = same_piece (sym (rw (c.if-slash.false, ne_eqb _ _ c.if-b-eq92.false))) c.put_byte-2.ensures
