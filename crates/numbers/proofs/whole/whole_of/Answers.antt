use Rattle.std.proofs.Common.{◌∙◌, arith}
use Rattle.spec_numbers.specs.Double.{whole_of}
use Rattle.numbers.proofs.WholeSteps.{whole_zero, whole_most, whole_within, not_whole}
use Rattle.numbers.proofs.whole.whole_of.Goals as goal

pub returns-in-0 : goal.returns-in-0
unfolding whole_of
returns-in-0 c = c.then_some.ensures ∙ whole_zero _ _ c.in-0.is

pub returns-in-1076 : goal.returns-in-1076
unfolding whole_of
returns-in-1076 c = c.then_some-in-1076.ensures ∙ whole_most _ _ c.in-1076.is

pub returns-in-1023-to-1075 : goal.returns-in-1023-to-1075
unfolding whole_of
returns-in-1023-to-1075 c = c.then_some-in-1023-to-1075.ensures ∙ whole_within _ _ (omega arith) (omega arith) (omega arith)

pub returns-in_default : goal.returns-in_default
unfolding whole_of
returns-in_default c = not_whole _ _ (λ z. omega (arith, z)) (λ z. omega (arith, z)) (λ a b. omega (arith, a, b))

pub returns-in_default-2 : goal.returns-in_default-2
unfolding whole_of
returns-in_default-2 c = not_whole _ _ (λ z. omega (arith, z)) (λ z. omega (arith, z)) (λ a b. omega (arith, a, b))
