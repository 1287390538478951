use mathlib.Core.Path.{◌∙◌}
use Rattle.decode.proofs.PlanLoop.{all_eight, first_four}
use Rattle.decode.proofs.record.Instruction.put_by_plan.Goals as goal

pub returns-then-self : goal.returns-then-self
returns-then-self c =
    c.put_no_operands.ensures ∙ (rw c.put_four.ensures (first_four c.args.self.now.row c.args.self.now.plan.now _ _ _ _ c.args.self.now.planned c.requires.1 c.if-self.true))

pub returns-else-self : goal.returns-else-self
returns-else-self c =
    c.put_four-else-self.ensures ∙ (rw c.put_four.ensures (all_eight c.args.self.now.row _ _ _ _ c.args.self.now.planned.1 c.requires.1))
