use native.Mathlib.Omega.{arith}
use borrow.Author.Tests.{eq-eqb, ne_eqb}
use Rattle.spec_sheet.proofs.TypeLaws.{width_most}
use Rattle.carry.proofs.plans.plan_of.Goals as goal

pub returns-then-c-eq0 : goal.returns-then-c-eq0
returns-then-c-eq0 c = rw (eq-eqb _ _ c.if-c-eq0.true)

pub overflow_cast-result : goal.overflow_cast-result
overflow_cast-result c = omega (arith, c.width.ensures, width_most c.args.c)

pub overflow_cast-result-2 : goal.overflow_cast-result-2
overflow_cast-result-2 c = omega (arith, c.width-2.ensures, width_most c.args.d)

pub returns : goal.returns
returns c = rw (ne_eqb _ _ c.if-c-eq0.false, c.action_of.ensures, c.width.ensures, c.width-2.ensures)
