use native.Mathlib.Omega.{arith}
use borrow.Author.Tests.{eqb-true, eqb-false}
use mathlib.Core.Path.{sym, ◌∙◌}
use Rattle.hasm_read.proofs.OperandLaws.{count_comma, count_blank, count_last}
use Rattle.hasm_read.proofs.commas.count_operands.Goals as goal

pub returns-then-is_empty : goal.returns-then-is_empty
returns-then-is_empty c =
    let l = c.loop-last in
    count_blank c.args.s.now l.at c.comma_from-k.result l.n _ c.comma_from-k.ensures.0 l.invariant.2 c.if-s-k.true _ c.trim-last.ensures (eqb-true _ 0 (sym c.is_empty.ensures ∙ c.if-is_empty.true))

pub returns-else-is_empty : goal.returns-else-is_empty
returns-else-is_empty c =
    let l = c.loop-last in
    count_last c.args.s.now l.at c.comma_from-k.result l.n _ c.comma_from-k.ensures.0 l.invariant.2 c.if-s-k.true _ c.trim-last.ensures (eqb-false _ 0 (sym c.is_empty.ensures ∙ c.if-is_empty.false))

pub loop-last-preserved : goal.loop-last-preserved
loop-last-preserved c =
    let l = c.loop-last in
    let h = c.if-s-k.false in
    (omega arith, omega arith, count_comma c.args.s.now l.at c.comma_from-k.result l.n _ c.comma_from-k.ensures.0 l.invariant.2 h)
