use mathlib.Core.List.{[]}
use Rattle.spec_inputs.specs.Context.{context_from}
use Rattle.carry.specs.EmptyRow.{empty}
use Rattle.carry.specs.Opcodes.{opcode_row}
use Rattle.carry.proofs.Filling.{Filled}
use Rattle.carry.proofs.OpcodeLaws.{RowMade}
use Rattle.carry.proofs.opcodes.opcode_rows.Given as goal

abbrev pub invariant-loop-op : goal.invariant-loop-op
invariant-loop-op l =
    Filled empty (RowMade (opcode_row (context_from l.«from».text.now l.«from».types.now l.«from».ops.now [] []) (context_from l.into.text.now l.types2 l.into.ops.now [] []))) 256 l.rows l.op
