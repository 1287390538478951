use mathlib.Core.Path.{sym, ◌∙◌}
use borrow.Author.Tests.{eq-eqb, ne_eqb}
use Rattle.sheet.specs.Families.{family_number}
use Rattle.sheet.specs.declared.family.Family.TheVariants.{Addr}
use Rattle.sheet.proofs.FamilyLaws.{same_family}
use Rattle.list_labels.proofs.target.is_addr.Goals as goal

pub returns-in-Addr : goal.returns-in-Addr
unfolding family_number
returns-in-Addr c = sym (eq-eqb _ 4 (sym c.in-Addr.ensures))

pub returns-in_default : goal.returns-in_default
unfolding family_number
returns-in_default c = sym (ne_eqb _ 4 (λ e. c.in_default.not-Addr (same_family _ Addr (c.family.ensures ∙ e))))
