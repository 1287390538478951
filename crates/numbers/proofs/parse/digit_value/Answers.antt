use Rattle.std.proofs.Common.{sym, ◌∙◌, arith}
use Rattle.spec_numbers.specs.Parse.{digit_value}
use Rattle.lists.proofs.Tests.{within_least}
use Rattle.numbers.proofs.parse.digit_value.Goals as goal

pub overflow_sub-result : goal.overflow_sub-result
overflow_sub-result c = omega (arith, within_least 48 57 c.args.b (sym c.is_within.ensures ∙ c.if-is_within.true))

pub returns-then-is_within : goal.returns-then-is_within
unfolding digit_value
returns-then-is_within c = rw (sym c.is_within.ensures ∙ c.if-is_within.true)

pub overflow_sub-result-then-is_within-2 : goal.overflow_sub-result-then-is_within-2
overflow_sub-result-then-is_within-2 c = omega (arith, within_least 97 102 c.args.b (sym c.is_within-2.ensures ∙ c.if-is_within-2.true))

pub returns-then-is_within-2 : goal.returns-then-is_within-2
unfolding digit_value
returns-then-is_within-2 c = rw (sym c.is_within.ensures ∙ c.if-is_within.false, sym c.is_within-2.ensures ∙ c.if-is_within-2.true)

pub overflow_sub-result-then-is_within-3 : goal.overflow_sub-result-then-is_within-3
overflow_sub-result-then-is_within-3 c = omega (arith, within_least 65 70 c.args.b (sym c.is_within-3.ensures ∙ c.if-is_within-3.true))

pub returns-then-is_within-3 : goal.returns-then-is_within-3
unfolding digit_value
returns-then-is_within-3 c = rw (sym c.is_within.ensures ∙ c.if-is_within.false, sym c.is_within-2.ensures ∙ c.if-is_within-2.false, sym c.is_within-3.ensures ∙ c.if-is_within-3.true)

pub returns : goal.returns
unfolding digit_value
returns c = rw (sym c.is_within.ensures ∙ c.if-is_within.false, sym c.is_within-2.ensures ∙ c.if-is_within-2.false, sym c.is_within-3.ensures ∙ c.if-is_within-3.false)
