use Rattle.sheet.specs.Families.{family_number}
use Rattle.listing.proofs.OperandLaws.{no_addr}
use borrow.Author.Tests.{eq-eqb}
use native.Mathlib.Omega.{arith}
use mathlib.Core.Path.{refl, sym, ◌∙◌}
use Rattle.listing.proofs.operand_text.number_of.Goals as goal

pub target_of-requires : goal.target_of-requires
unfolding family_number
target_of-requires c = let q = c.requires in (q.0, sym q.1 ∙ rw c.in-Addr.is refl, q.2)

pub returns-in-Addr : goal.returns-in-Addr
unfolding family_number
returns-in-Addr c = (rw (eq-eqb _ 4 (sym c.requires.1 ∙ rw c.in-Addr.is refl)) c.target_of.ensures, omega arith)

pub returns-in_default : goal.returns-in_default
returns-in_default c = (rw (sym c.requires.1, no_addr c.args.family c.in_default.not-Addr) refl, c.requires.3)
