use Rattle.list_labels.proofs.JumpLaws.{near_bits, near_target, far_bits, far_target}
use mathlib.Core.Path.{◌∙◌}
use native.Mathlib.Omega.{arith}
use Rattle.list_labels.proofs.target.target_of.Goals as goal

pub overflow_cast-bits : goal.overflow_cast-bits
overflow_cast-bits c = omega (arith, near_bits _ c.args.bits c.if-code-eq-ADDR8.true c.requires.2)

pub returns-then-code-eq-ADDR8 : goal.returns-then-code-eq-ADDR8
returns-then-code-eq-ADDR8 c = c.wrapping_target.ensures ∙ rw c.sign_extend8.ensures (near_target _ _ _ c.if-code-eq-ADDR8.true)

pub overflow_cast-bits-2 : goal.overflow_cast-bits-2
overflow_cast-bits-2 c = omega (arith, far_bits _ c.args.bits c.requires.1 c.if-code-eq-ADDR8.false c.requires.2)

pub returns : goal.returns
returns c = c.wrapping_target-2.ensures ∙ far_target _ _ _ c.if-code-eq-ADDR8.false
