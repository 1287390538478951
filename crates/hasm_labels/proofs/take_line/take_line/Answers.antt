use mathlib.Core.List.{[]}
use native.Mathlib.Omega.{arith}
use Rattle.limits.specs.Limits.{line_limit}
use Rattle.hasm_read.proofs.PartLaws.{part_short}
use Rattle.hasm_labels.proofs.LineTurns.{line_nothing, line_label, line_code, label_near, was_code}
use Rattle.hasm_labels.proofs.take_line.take_line.Goals as goal

pub read_statement-requires : goal.read_statement-requires
read_statement-requires c = rw c.line_of-line.ensures c.requires.short

pub overflow_add-result : goal.overflow_add-result
overflow_add-result c =
    let q = c.requires in
    let z = label_near c.args.source.text.now c.args.at c.args.end _ _ _ _ c.line_of-line.ensures (rw c.in-Label.is at (c.read_statement.ensures [] [] [])) in
    omega (arith, z, q.near, q.limited, q.inside)

pub slice_bounds-take_code-count : goal.slice_bounds-take_code-count
slice_bounds-take_code-count c = let z = was_code _ _ _ _ (rw c.in-Instruction.is at (c.read_statement.ensures [] [] [])) in omega (arith, z.1)

pub slice_bounds-take_code-start : goal.slice_bounds-take_code-start
slice_bounds-take_code-start c = let z = was_code _ _ _ _ (rw c.in-Instruction.is at (c.read_statement.ensures [] [] [])) in omega (arith, z.1)

pub slice_bounds-take_code-end : goal.slice_bounds-take_code-end
slice_bounds-take_code-end c = let z = was_code _ _ _ _ (rw c.in-Instruction.is at (c.read_statement.ensures [] [] [])) in omega (arith, z.2)

pub take_code-requires : goal.take_code-requires
take_code-requires c = (part_short _ _ c.in-Instruction.a c.in-Instruction.b line_limit c.line_of-line.ensures c.requires.short, c.requires.small)

pub returns-in-Nothing : goal.returns-in-Nothing
returns-in-Nothing c =
    let a = c.args in
    let q = c.requires in
    λ bytes ends slots g. line_nothing _ a.source.text.now a.t.now slots a.at a.n a.end a.p a.labels.now g q.inside q.ends q.near _ c.line_of-line.ensures
    (rw (c.in-Nothing.is, c.names.ensures.text, c.names.ensures.ops) at (c.read_statement.ensures a.source.tables.types.now bytes ends))

pub returns-in-Label : goal.returns-in-Label
returns-in-Label c =
    let a = c.args in
    let q = c.requires in
    λ bytes ends slots g. line_label _ a.source.text.now a.t.now slots a.at a.n a.end a.p a.labels.now g q.inside q.ends q.near _ c.line_of-line.ensures q.limited _ _
    (rw (c.in-Label.is, c.names.ensures.text, c.names.ensures.ops) at (c.read_statement.ensures a.source.tables.types.now bytes ends))

pub returns-in-Instruction : goal.returns-in-Instruction
returns-in-Instruction c =
    let a = c.args in
    let q = c.requires in
    λ bytes ends slots g. line_code _ a.source.text.now a.t.now slots a.at a.n a.end a.p a.labels.now g q.inside q.ends q.near _ c.line_of-line.ensures _ _
    (rw (c.in-Instruction.is, c.names.ensures.text, c.names.ensures.ops) at (c.read_statement.ensures a.source.tables.types.now bytes ends)) _ c.take_code.result (c.take_code.ensures bytes ends)
