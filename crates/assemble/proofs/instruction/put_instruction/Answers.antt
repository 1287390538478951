use Rattle.assemble.proofs.InstructionLaws.{opcode_small, opcode_found, put_whole, put_refused}
use Rattle.sheet.proofs.AnswerLaws.{is_error}
use Rattle.assemble.specs.Contexts.{under, labels_under}
use Rattle.spec_sheet.specs.Sheet.{find_name}
use lib.ListN.{take}
use native.Mathlib.Omega.{arith}
use Rattle.assemble.proofs.instruction.put_instruction.Goals as goal

pub offset_bounds-source-opcode : goal.offset_bounds-source-opcode
offset_bounds-source-opcode c =
    let t = c.args.context.labels.source.tables in
    let below = opcode_small t.text.now (take c.word_end-n.result c.args.s.now) t.ops.now _ _ (omega arith) (rw (c.names.ensures.text, c.names.ensures.ops) at c.find.ensures) c.unwrap_or-opcode.ensures in
    record { fits = omega (arith, below) }

pub bounds-source-opcode : goal.bounds-source-opcode
bounds-source-opcode c =
    let t = c.args.context.labels.source.tables in
    opcode_small t.text.now (take c.word_end-n.result c.args.s.now) t.ops.now _ _ (omega arith) (rw (c.names.ensures.text, c.names.ensures.ops) at c.find.ensures) c.unwrap_or-opcode.ensures

pub overflow_cast-opcode : goal.overflow_cast-opcode
overflow_cast-opcode c =
    let t = c.args.context.labels.source.tables in
    let below = opcode_small t.text.now (take c.word_end-n.result c.args.s.now) t.ops.now _ _ (omega arith) (rw (c.names.ensures.text, c.names.ensures.ops) at c.find.ensures) c.unwrap_or-opcode.ensures in
    record { fits = omega (arith, below) }

pub returns-in_err-next : goal.returns-in_err-next
returns-in_err-next c =
    let x = c.args.context in
    let t = x.labels.source.tables in
    let n = c.word_end-n.result in
    let o = opcode_found (find_name t.text.now (take n c.args.s.now) 0 t.ops.now) _ _ (rw (c.names.ensures.text, c.names.ensures.ops) at c.find.ensures) c.unwrap_or-opcode.ensures in
    rw (is_error _ c.from_residual.ensures.1) (put_refused (under x) (labels_under x) c.args.s.now c.args.place n c.white_end-a.result c.word_end-n.ensures.0 c.white_end-a.ensures.0 c.unwrap_or-opcode.result o c.in_err-next.ensures)

pub returns : goal.returns
returns c =
    let x = c.args.context in
    let t = x.labels.source.tables in
    let n = c.word_end-n.result in
    let o = opcode_found (find_name t.text.now (take n c.args.s.now) 0 t.ops.now) _ _ (rw (c.names.ensures.text, c.names.ensures.ops) at c.find.ensures) c.unwrap_or-opcode.ensures in
    put_whole (under x) (labels_under x) c.args.s.now c.args.place n c.white_end-a.result c.word_end-n.ensures.0 c.white_end-a.ensures.0 c.unwrap_or-opcode.result o _ _ c.instruction_length.ensures.0 c.instruction_length.ensures.1 c.put_byte-b.ensures c.in_ok-next.ensures
