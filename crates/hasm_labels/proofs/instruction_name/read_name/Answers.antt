use native.Mathlib.Omega.{arith}
use mathlib.Core.Path.{sym, ◌∙◌}
use Rattle.hasm_labels.proofs.NameLaws.{row_below, name_unknown, name_miscounted, name_sized}
use borrow.Author.Rules.{rules}
use Rattle.hasm_labels.proofs.instruction_name.read_name.Goals as goal

pub returns-in_default : goal.returns-in_default
returns-in_default c =
    let a = c.args in
    λ bytes ends. name_unknown _ a.n a.s.now c.word_end-k.result c.word_end-k.ensures.0 (sym c.in_default.is ∙ (rw (c.names.ensures.text, c.names.ensures.ops) at c.find.ensures))

pub bounds-source-opcode : goal.bounds-source-opcode
bounds-source-opcode c = row_below c.args.source.tables.text.now _ c.args.source.tables.ops.now _ (sym c.in-Some.is ∙ (rw (c.names.ensures.text, c.names.ensures.ops) at c.find.ensures)) (omega arith)

pub returns-then-given-operand_count : goal.returns-then-given-operand_count
returns-then-given-operand_count c =
    let a = c.args in
    λ bytes ends. name_miscounted _ a.n a.s.now c.word_end-k.result c.word_end-k.ensures.0 _ (sym c.in-Some.is ∙ (rw (c.names.ensures.text, c.names.ensures.ops) at c.find.ensures)) c.white_end-a.result c.white_end-a.ensures.0 _ c.count_operands-given.ensures (λ e. c.if-given-operand_count.true (e ∙ sym c.operand_count.ensures))

pub returns : goal.returns
returns c =
    let a = c.args in
    λ bytes ends. name_sized _ a.n a.s.now c.word_end-k.result c.word_end-k.ensures.0 _ (sym c.in-Some.is ∙ (rw (c.names.ensures.text, c.names.ensures.ops) at c.find.ensures)) c.white_end-a.result c.white_end-a.ensures.0 _ c.count_operands-given.ensures (c.if-given-operand_count.false ∙ c.operand_count.ensures) _ c.instruction_length.ensures.0 c.instruction_length.ensures.1

pub offset_bounds-source-opcode : goal.offset_bounds-source-opcode
offset_bounds-source-opcode c = let below = row_below c.args.source.tables.text.now _ c.args.source.tables.ops.now _ (sym c.in-Some.is ∙ (rw (c.names.ensures.text, c.names.ensures.ops) at c.find.ensures)) (omega arith) in search (rules, below)
