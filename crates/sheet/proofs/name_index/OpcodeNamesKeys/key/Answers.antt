use mathlib.Core.Path.{sym, ap, refl}
use borrow.Author.Tests.{ne_eqb}
use Rattle.std.specs.Prelude.{Some}
use Rattle.sheet.specs.Keys.{name_in_row}
use Rattle.sheet.proofs.name_index.OpcodeNamesKeys.key.Goals as goal

pub returns-then-size-eq0 : goal.returns-then-size-eq0
unfolding name_in_row
returns-then-size-eq0 c = rw (c.if-size-eq0.true) refl

pub returns : goal.returns
unfolding name_in_row
returns c = rw (ne_eqb _ 0 c.if-size-eq0.false) (ap Some (sym c.part_of.ensures))
