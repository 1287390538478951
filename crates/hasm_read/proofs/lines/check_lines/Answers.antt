use mathlib.Core.Path.{sym, ◌∙◌}
use Rattle.hasm_read.proofs.CheckLaws.{going_start, going_end, going_long, going_bad, going_on}
use Rattle.hasm_read.proofs.lines.check_lines.Goals as goal

pub loop-at-init : goal.loop-at-init
loop-at-init c = going_start c.args.text.now

pub returns-then-long : goal.returns-then-long
returns-then-long c =
    let l = c.loop-at in
    going_long c.args.text.now l.at l.n c.line_end-end.result _ l.invariant c.loop-at-test.true c.line_end-end.ensures.0 c.line_of-line.ensures c.if-long.true

pub returns-then-not-good : goal.returns-then-not-good
returns-then-not-good c =
    let l = c.loop-at in
    going_bad c.args.text.now l.at l.n c.line_end-end.result _ l.invariant c.loop-at-test.true c.line_end-end.ensures.0 c.line_of-line.ensures c.if-long.false (sym c.is_text-good.ensures ∙ c.if-not-good.true)

pub loop-at-preserved : goal.loop-at-preserved
loop-at-preserved c =
    let l = c.loop-at in
    going_on c.args.text.now l.at l.n c.line_end-end.result _ l.invariant c.loop-at-test.true c.line_end-end.ensures.0 c.line_of-line.ensures c.if-long.false c.line_end-end.ensures.1 (sym c.is_text-good.ensures ∙ c.if-not-good.false)

pub returns : goal.returns
returns c = going_end c.loop-at.invariant c.loop-at-test.false
