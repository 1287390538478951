use native.Mathlib.Omega.{arith}
use Rattle.carry.proofs.OpcodeLaws.{opcode_below, row_found, row_missing}
use Rattle.carry.proofs.opcodes.opcode_row.Goals as goal

pub offset_bounds-types2-opcode : goal.offset_bounds-types2-opcode
offset_bounds-types2-opcode c = let a = c.args in omega (arith, opcode_below a.into.text.now _ a.into.ops.now _ (omega arith) c.in-Some.ensures)

pub bounds-types2-opcode : goal.bounds-types2-opcode
bounds-types2-opcode c = let a = c.args in opcode_below a.into.text.now _ a.into.ops.now _ (omega arith) c.in-Some.ensures

pub returns-in-Some : goal.returns-in-Some
returns-in-Some c =
    let a = c.args in record {
      value = row_found _ a.row a.types2.now _ _ _ _ c.in-Some.ensures c.state_of.ensures c.instruction_length-length.ensures.0 c.instruction_length.ensures.0;
      result_bound = (opcode_below a.into.text.now _ a.into.ops.now _ (omega arith) c.in-Some.ensures, c.instruction_length.ensures.1);
    }

pub returns-in-None : goal.returns-in-None
returns-in-None c =
    let a = c.args in record {
      value = row_missing _ a.row a.types2.now _ _ c.in-None.ensures c.instruction_length-length.ensures.0 c.instruction_length-in-None.ensures.0;
      result_bound = (omega arith, c.instruction_length-in-None.ensures.1);
    }
