-- The row of an opcode past the largest. Assumes nothing.
use Rattle.carry.specs.declared.opcodes.OpcodeRow.{OpcodeRow}
use Rattle.carry.specs.declared.opcodes.State.TheVariants.{Missing}

abbrev pub empty : OpcodeRow
empty = record { state = Missing; opcode = 0; length = 0; new_length = 0 }
