use Rattle.list_labels.proofs.FlowLaws.{flow_ret, flow_three, flow_five, flow_seven, flow_none}
use Rattle.lists.specs.Text.{text}
use native.Mathlib.Omega.{arith}
use mathlib.Core.Path.{sym, ◌∙◌}
use Rattle.list_labels.proofs.flow_end.is_flow_end.Goals as goal

pub returns-then-same_bytes : goal.returns-then-same_bytes
unfolding text
returns-then-same_bytes c = c.if-same_bytes.true ∙ sym (flow_ret _ (sym c.same_bytes.ensures ∙ c.if-same_bytes.true))

pub returns-else-same_bytes : goal.returns-else-same_bytes
unfolding text
returns-else-same_bytes c = c.same_bytes-else-same_bytes.ensures ∙ sym (flow_three _ c.in-3.is (sym c.same_bytes.ensures ∙ c.if-same_bytes.false))

pub returns-in-5 : goal.returns-in-5
unfolding text
returns-in-5 c = c.same_bytes-in-5.ensures ∙ sym (flow_five _ c.in-5.is)

pub returns-in-7 : goal.returns-in-7
unfolding text
returns-in-7 c = c.same_bytes-in-7.ensures ∙ sym (flow_seven _ c.in-7.is)

pub returns-in_default : goal.returns-in_default
returns-in_default c = sym (flow_none _ (λ e. omega (arith, e)) (λ e. omega (arith, e)) (λ e. omega (arith, e)))
