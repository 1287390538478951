use Rattle.assemble.proofs.LineTurns.{turn_none, turn_code}
use Rattle.hasm_labels.proofs.LineTurns.{was_code}
use Rattle.assemble.specs.Contexts.{text_in, under, labels_under}
use mathlib.Core.List.{[]}
use native.Mathlib.Omega.{arith}
use Rattle.assemble.proofs.instruction.put_line.Goals as goal

pub slice_bounds-put_instruction-count : goal.slice_bounds-put_instruction-count
slice_bounds-put_instruction-count c = let z = was_code _ _ _ _ (c.in-Instruction.ensures [] [] []) in omega (arith, z.1)

pub slice_bounds-put_instruction-start : goal.slice_bounds-put_instruction-start
slice_bounds-put_instruction-start c = let z = was_code _ _ _ _ (c.in-Instruction.ensures [] [] []) in omega (arith, z.1)

pub slice_bounds-put_instruction-end : goal.slice_bounds-put_instruction-end
slice_bounds-put_instruction-end c = let z = was_code _ _ _ _ (c.in-Instruction.ensures [] [] []) in omega (arith, z.2)

pub returns-in-Nothing : goal.returns-in-Nothing
returns-in-Nothing c =
    let x = c.args.context in
    let read = rw (c.names.ensures.text, c.names.ensures.ops) at (c.read_statement.ensures x.labels.source.tables.types.now x.texts.strings.bytes.now x.texts.strings.ends.now) in
    λ o n g. turn_none (under x) (labels_under x) (text_in x) c.args.span.at c.args.span.end c.args.place c.requires.line_at _ c.line_of-line.ensures g _ read c.in-Nothing.is

pub returns-in-Instruction : goal.returns-in-Instruction
returns-in-Instruction c =
    let x = c.args.context in
    let read = rw (c.names.ensures.text, c.names.ensures.ops) at (c.in-Instruction.ensures x.labels.source.tables.types.now x.texts.strings.bytes.now x.texts.strings.ends.now) in
    λ o n g. turn_code (under x) (labels_under x) (text_in x) c.args.span.at c.args.span.end c.args.place c.requires.line_at _ c.line_of-line.ensures g _ _ read _ c.put_instruction.result c.put_instruction.ensures
