use Rattle.carry.proofs.PassLaws.{between}
use Rattle.carry.proofs.carry.carry_opened.Goals as goal

pub carry_between-requires-clause-between : goal.carry_between-requires-clause-between
carry_between-requires-clause-between c =
    let x = c.args.from in
    let y = c.args.into in
    let r = c.rows_between.ensures in
    let z = c.requires.by_index in
    let b = between x.tables.text.now x.tables.types.now x.tables.ops.now x.strings.bytes.now x.strings.ends.now y.tables.text.now y.tables.types.now y.tables.ops.now y.strings.bytes.now y.strings.ends.now _ _ r.opcode_rows r.new_opcodes.0 r.new_opcodes.1 z.0 z.1 in
    b

pub returns : goal.returns
returns c =
    let x = c.args.from in
    let y = c.args.into in
    let r = c.rows_between.ensures in
    let z = c.requires.by_index in
    let b = between x.tables.text.now x.tables.types.now x.tables.ops.now x.strings.bytes.now x.strings.ends.now y.tables.text.now y.tables.types.now y.tables.ops.now y.strings.bytes.now y.strings.ends.now _ _ r.opcode_rows r.new_opcodes.0 r.new_opcodes.1 z.0 z.1 in
    c.carry_between.ensures b
