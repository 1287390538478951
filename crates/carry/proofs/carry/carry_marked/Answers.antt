use mathlib.Core.Path.{refl, ap, ◌∙◌}
use Rattle.operation.specs.Ends.{left_by}
use Rattle.operation.proofs.EndLaws.{zeros_of}
use Rattle.carry.proofs.AnswerLaws.{is_error}
use Rattle.carry.proofs.PassLaws.{ends_refused, ends_written, left_twice}
use Rattle.carry.proofs.carry.carry_marked.Goals as goal

pub returns-in_err-k : goal.returns-in_err-k
returns-in_err-k c = λ g n.
    let all = c.carry_instructions in
    rw (is_error _ c.from_residual.ensures.1)
    (ends_refused g _ (rw c.in_err-k.was at (all.ensures (record { types = _; types₂ = _; last = _; ready = g; plans_are = c.plan_table.ensures }))) (zeros_of _ _ _ all.auto.out refl))

pub returns : goal.returns
returns c = λ g n.
    let m = c.measure.ensures in
    ends_written g _ _ _ _ (rw c.in_ok-k.was at (c.carry_instructions.ensures (record { types = _; types₂ = _; last = _; ready = g; plans_are = c.plan_table.ensures }))) n m.value
    (ap (left_by c.measure.result) m.out_after ∙ left_twice c.measure.result c.carry_instructions.new.out)
