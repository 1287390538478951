use Rattle.list_labels.proofs.OpcodeRowLaws.{Made}
use Rattle.list_labels.proofs.opcode_rows.opcode_rows.Given as goal

abbrev pub invariant-loop-op : goal.invariant-loop-op
invariant-loop-op l = Made l.tables.text.now l.tables.types.now l.tables.ops.now l.rows l.op
