use mathlib.Core.Path.{sym, ◌∙◌}
use native.Mathlib.Omega.{arith}
use Rattle.hasm_read.proofs.StatementLaws.{cut_not_empty, no_statement, a_label, a_code, a_label_alone}
use Rattle.hasm_read.proofs.LabelLaws.{label_room}
use Rattle.hasm_read.proofs.statement.read_statement.Goals as goal

pub overflow_sub-size : goal.overflow_sub-size
overflow_sub-size c = omega (arith, label_room _ (sym c.is_label.ensures ∙ c.if-is_label.true))

pub returns-then-is_label : goal.returns-then-is_label
returns-then-is_label c = λ types bytes ends. a_label_alone _ _ (sym c.is_label.ensures ∙ c.if-is_label.true)

pub returns-then-is_skipped : goal.returns-then-is_skipped
returns-then-is_skipped c =
    λ types bytes ends. no_statement c.args.line.now _ _ _ c.comment_start-c.ensures c.white_end-a.ensures c.solid_length-n.ensures _ (sym c.is_skipped.ensures ∙ c.if-is_skipped.true)

pub overflow_sub-size-then-is_label-2 : goal.overflow_sub-size-then-is_label-2
overflow_sub-size-then-is_label-2 c =
    cut_not_empty c.args.line.now _ _ _ c.comment_start-c.ensures c.white_end-a.ensures c.solid_length-n.ensures (sym c.is_skipped.ensures ∙ c.if-is_skipped.false)

pub returns-then-is_label-2 : goal.returns-then-is_label-2
returns-then-is_label-2 c =
    λ types bytes ends. a_label c.args.line.now _ _ _ c.comment_start-c.ensures c.white_end-a.ensures c.solid_length-n.ensures _ (sym c.is_skipped.ensures ∙ c.if-is_skipped.false) (sym c.is_label-2.ensures ∙ c.if-is_label-2.true)

pub returns : goal.returns
returns c =
    λ types bytes ends. a_code c.args.line.now _ _ _ c.comment_start-c.ensures c.white_end-a.ensures c.solid_length-n.ensures _ (sym c.is_skipped.ensures ∙ c.if-is_skipped.false) (sym c.is_label-2.ensures ∙ c.if-is_label-2.false) _ (c.behind_offset-k.ensures.0 types bytes ends) c.behind_offset-k.ensures.1
