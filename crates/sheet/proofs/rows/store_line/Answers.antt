use mathlib.Core.Path.{sym, ◌∙◌}
use Rattle.sheet.proofs.StoreLaws.{stored, refused, not_read, row_inside}
use Rattle.sheet.proofs.rows.store_line.Goals as goal

pub returns-in_err-line : goal.returns-in_err-line
returns-in_err-line c =
    let a = c.args in
    let w = not_read a.s.now a.least a.types.now a.ops.now _ _ c.from_residual.ensures (sym c.line_at.ensures ∙ c.in_err-line.was) in
    record { value = w.answer_is; types_after = w.types_are; ops_after = w.infos_are; filtered = c.requires.1 }

pub store_op-requires : goal.store_op-requires
store_op-requires c =
    let a = c.args in
    (c.requires.0, row_inside a.s.now a.at (sym c.line_at.ensures ∙ c.in_ok-line.was), c.requires.1)

pub returns-then-store_op : goal.returns-then-store_op
returns-then-store_op c =
    let a = c.args in
    let o = c.store_op in
    let w = stored a.s.now a.least a.types.now a.ops.now _ (sym c.line_at.ensures ∙ c.in_ok-line.was) o.result o.ensures.value _ _ o.ensures.types_after o.ensures.ops_after c.if-store_op.true in
    record { value = w.answer_is; types_after = w.types_are; ops_after = w.infos_are; filtered = o.ensures.filtered }

pub returns : goal.returns
returns c =
    let a = c.args in
    let o = c.store_op in
    let w = refused a.s.now a.least a.types.now a.ops.now _ (sym c.line_at.ensures ∙ c.in_ok-line.was) o.result o.ensures.value _ _ o.ensures.types_after o.ensures.ops_after c.if-store_op.false in
    record { value = w.answer_is; types_after = w.types_are; ops_after = w.infos_are; filtered = o.ensures.filtered }
