use Rattle.sheet.proofs.WordLaws.{opens_other}
use Rattle.lists.specs.Text.{text}
use borrow.Author.Tests.{eqb-false}
use lib.ListN.{get_or}
use mathlib.Core.Path.{sym, ◌∙◌}
use Rattle.sheet.proofs.scan.opens_function.Goals as goal

pub returns-then-byte_is : goal.returns-then-byte_is
unfolding text
returns-then-byte_is c = c.opens_at.ensures

pub returns-else-byte_is : goal.returns-else-byte_is
unfolding text
returns-else-byte_is c = let a = c.args in c.if-byte_is.false ∙ sym (opens_other 70 (text "unction") a.s.now a.at (eqb-false (get_or a.s.now a.at 0) 70 (sym c.byte_is.ensures ∙ c.if-byte_is.false)))
