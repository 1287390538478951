use Rattle.carry.proofs.PassLaws.{between}
use Rattle.carry.proofs.carry.carry_within.Goals as goal

pub carry_body-answer-requires : goal.carry_body-answer-requires
carry_body-answer-requires c =
    let x = c.args.from in
    let y = c.args.into in
    let r = c.rows_between.ensures in
    let z = c.requires.by_index in
    let b = between x.tables.text.now x.tables.types.now x.tables.ops.now x.strings.bytes.now x.strings.ends.now y.tables.text.now y.tables.types.now y.tables.ops.now y.strings.bytes.now y.strings.ends.now _ _ r.opcode_rows r.new_opcodes.0 r.new_opcodes.1 z.0 z.1 in
    (record { bytes₁ = _; ends₁ = _; bytes₂ = _; ends₂ = _; contexts = b; translated = c.translate_in.ensures.translated }, c.requires.s_len_bound.0)

pub returns-clause-ended : goal.returns-clause-ended
returns-clause-ended c =
    let x = c.args.from in
    let y = c.args.into in
    let r = c.rows_between.ensures in
    let z = c.requires.by_index in
    let b = between x.tables.text.now x.tables.types.now x.tables.ops.now x.strings.bytes.now x.strings.ends.now y.tables.text.now y.tables.types.now y.tables.ops.now y.strings.bytes.now y.strings.ends.now _ _ r.opcode_rows r.new_opcodes.0 r.new_opcodes.1 z.0 z.1 in
    rw c.settle.ensures (c.carry_body-answer.ensures (record { bytes₁ = _; ends₁ = _; bytes₂ = _; ends₂ = _; contexts = b; translated = c.translate_in.ensures.translated }))
