use mathlib.Core.Path.{sym, ◌∙◌}
use denote.Enum.Bare.{same_true, same_false}
use borrow.Author.Rules.{rules}
use borrow.Author.Tests.{not-true, not-false}
use Rattle.sheet.specs.contracts.family.Family.{the_type}
use Rattle.carry.proofs.FamilyLaws.{in_family, two_families, one_family, numbers_same, numbers_differ, keeps_others}
use Rattle.carry.proofs.plans.action_of.Goals as goal

pub returns-then-ne : goal.returns-then-ne
returns-then-ne c = two_families _ _ _ _ c.family-family.ensures c.family.ensures (same_false the_type _ _ (not-true _ (sym c.if-ne.ensures)))

pub returns-in-Str : goal.returns-in-Str
unfolding in_family
returns-in-Str c = rw c.in-Str.is at (one_family _ _ _ _ c.family-family.ensures c.family.ensures (same_true the_type (search rules) _ _ (not-false _ (sym c.if-ne.ensures))))

pub returns-in-Addr : goal.returns-in-Addr
unfolding in_family
returns-in-Addr c = rw c.in-Addr.is at (one_family _ _ _ _ c.family-family.ensures c.family.ensures (same_true the_type (search rules) _ _ (not-false _ (sym c.if-ne.ensures))))

pub returns-then-c-d : goal.returns-then-c-d
returns-then-c-d c = sym (numbers_same _ _ _ c.in-Reg.is c.if-c-d.true) ∙ one_family _ _ _ _ c.family-family.ensures c.family.ensures (same_true the_type (search rules) _ _ (not-false _ (sym c.if-ne.ensures)))

pub returns-else-c-d : goal.returns-else-c-d
returns-else-c-d c = sym (numbers_differ _ _ _ c.in-Reg.is c.if-c-d.false) ∙ one_family _ _ _ _ c.family-family.ensures c.family.ensures (same_true the_type (search rules) _ _ (not-false _ (sym c.if-ne.ensures)))

pub returns-in-NoOperand : goal.returns-in-NoOperand
returns-in-NoOperand c = sym (keeps_others _ _ _ c.in-NoOperand.is) ∙ one_family _ _ _ _ c.family-family.ensures c.family.ensures (same_true the_type (search rules) _ _ (not-false _ (sym c.if-ne.ensures)))
