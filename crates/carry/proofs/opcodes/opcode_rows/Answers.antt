use native.Mathlib.Omega.{arith}
use Rattle.spec_inputs.specs.Context.{name_of}
use Rattle.carry.proofs.Filling.{none_made, one_more}
use borrow.Author.Rules.{rules}
use Rattle.carry.proofs.opcodes.opcode_rows.Goals as goal

pub loop-op-init : goal.loop-op-init
loop-op-init c = none_made _ _ _ _ (search rules)

pub loop-op-preserved : goal.loop-op-preserved
unfolding name_of
loop-op-preserved c = one_more _ _ _ _ _ _ c.loop-op.invariant (omega arith) (record { is = c.opcode_row.ensures.value; opcode = c.opcode_row.ensures.result_bound.0; new_length = c.opcode_row.ensures.result_bound.1 })

pub returns : goal.returns
unfolding name_of
returns c =
    let m = c.loop-op.invariant in record {
      opcode_rows = (λ bytes₁ ends₁ bytes₂ ends₂ o h k. (m.made o (omega arith)).is);
      new_opcodes = ((λ o h k. (m.made o (omega arith)).opcode), (λ o h k. (m.made o (omega arith)).new_length));
    }

pub returns-2 : goal.returns-2
unfolding name_of
returns-2 c =
    let m = one_more _ _ _ _ _ _ c.loop-op.invariant (omega arith) (record { is = c.opcode_row.ensures.value; opcode = c.opcode_row.ensures.result_bound.0; new_length = c.opcode_row.ensures.result_bound.1 }) in record {
      opcode_rows = (λ bytes₁ ends₁ bytes₂ ends₂ o h k. (m.made o (omega arith)).is);
      new_opcodes = ((λ o h k. (m.made o (omega arith)).opcode), (λ o h k. (m.made o (omega arith)).new_length));
    }
