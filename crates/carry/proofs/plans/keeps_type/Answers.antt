use mathlib.Core.Path.{sym}
use borrow.Author.Tests.{eq-eqb, ne_eqb}
use Rattle.carry.specs.Plans.{is_kept}
use Rattle.carry.proofs.PlanLaws.{not_kept}
use Rattle.carry.proofs.plans.keeps_type.Goals as goal

pub returns-else-c-d : goal.returns-else-c-d
returns-else-c-d c = rw (ne_eqb _ _ c.if-c-d.false)

pub returns-in-Keeps : goal.returns-in-Keeps
unfolding is_kept
returns-in-Keeps c = rw (eq-eqb _ _ c.if-c-d.true, sym c.action_of.ensures, c.in-Keeps.is)

pub returns-in_default : goal.returns-in_default
returns-in_default c = rw (eq-eqb _ _ c.if-c-d.true, sym c.action_of.ensures, not_kept _ c.in_default.not-Keeps)
