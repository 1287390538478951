use Rattle.sheet.specs.Lines.{types_of}
use Rattle.spec_sheet.specs.Line.{types_at}
use Rattle.lists.proofs.Parts.{inside}
use borrow.Author.Tests.{eqb-true}
use lib.ListN.{get_or}
use native.Mathlib.Omega.{arith}
use mathlib.Core.Path.{sym, ◌∙◌, refl}
use Rattle.sheet.proofs.line.types_at.Goals as goal

pub overflow_add-result : goal.overflow_add-result
overflow_add-result c =
    let a = c.args in
    let e = eqb-true (get_or a.s.now a.at 0) 45 (sym c.byte_is.ensures ∙ c.if-byte_is.true) in
    omega (arith, inside a.s.now a.at (λ z. omega (arith, e)))

pub returns-then-byte_is : goal.returns-then-byte_is
unfolding types_at types_of
returns-then-byte_is c = rw (sym c.byte_is.ensures ∙ c.if-byte_is.true) refl

pub returns : goal.returns
unfolding types_at
returns c = rw (sym c.byte_is.ensures ∙ c.if-byte_is.false) c.types_from.ensures
