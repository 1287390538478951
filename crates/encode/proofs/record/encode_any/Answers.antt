use Prim.Native.Nat.{◌*◌}
use Rattle.encode.proofs.RecordLaws.{shape_bad, opcode_beyond, count_other, operands_written}
use mathlib.Core.Path.{sym, ◌∙◌}
use Rattle.encode.proofs.record.encode_any.Goals as goal

pub returns-then-not-good_shape : goal.returns-then-not-good_shape
returns-then-not-good_shape c =
    let a = c.args in
    shape_bad a.types.now a.last a.i (20 * a.i) a.words.now _ _ _ (sym c.good_shape.ensures ∙ c.if-not-good_shape.true)

pub returns-then-last-opcode : goal.returns-then-last-opcode
returns-then-last-opcode c =
    let a = c.args in
    opcode_beyond a.types.now a.last a.i (20 * a.i) a.words.now _ _ _ (sym c.good_shape.ensures ∙ c.if-not-good_shape.false) c.if-last-opcode.true

pub returns-then-words-at : goal.returns-then-words-at
returns-then-words-at c =
    let a = c.args in
    count_other a.types.now a.last a.i (20 * a.i) a.words.now _ _ _ (sym c.good_shape.ensures ∙ c.if-not-good_shape.false) c.if-last-opcode.false (rw c.operand_count.ensures at c.if-words-at.true)

pub encode_operands-requires : goal.encode_operands-requires
encode_operands-requires c = (c.requires.0, sym c.good_shape.ensures ∙ c.if-not-good_shape.false)

pub returns : goal.returns
returns c =
    let a = c.args in
    let good = sym c.good_shape.ensures ∙ c.if-not-good_shape.false in
    let counted = c.if-words-at.false ∙ c.operand_count.ensures in
    operands_written a.types.now a.last a.i (20 * a.i) a.words.now _ _ _ good c.if-last-opcode.false counted _ _ c.put_byte-k.ensures _ c.encode_operands.ensures
