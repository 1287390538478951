use mathlib.Core.Path.{sym, ◌∙◌}
use native.Mathlib.Omega.{arith}
use Rattle.hasm_read.proofs.ScanLaws.{outside_end, inside_end, outside_quote, outside_stop, outside_go, inside_quote, inside_go}
use Rattle.hasm_read.proofs.quote.+scan.Goals as goal

pub outside_quotes-returns-then-is_quote : goal.outside_quotes-returns-then-is_quote
outside_quotes-returns-then-is_quote g t c =
    let k = c.loop-i in
    (c.inside_quotes.ensures.0 ∙ sym (k.invariant ∙ outside_quote _ g.S.Scan.stop c.args.s.now k.i c.loop-i-test.true (sym c.is_quote.ensures ∙ c.if-is_quote.true)), c.inside_quotes.ensures.1)

pub outside_quotes-returns-then-stops : goal.outside_quotes-returns-then-stops
outside_quotes-returns-then-stops g t c =
    let k = c.loop-i in
    (sym (k.invariant ∙ outside_stop _ g.S.Scan.stop c.args.s.now k.i c.loop-i-test.true (sym c.is_quote.ensures ∙ c.if-is_quote.false) (sym c.stops.ensures ∙ c.if-stops.true)), omega (arith, c.loop-i-test.true))

pub outside_quotes-loop-i-preserved : goal.outside_quotes-loop-i-preserved
outside_quotes-loop-i-preserved g t c =
    let k = c.loop-i in
    k.invariant ∙ outside_go _ g.S.Scan.stop c.args.s.now k.i c.loop-i-test.true (sym c.is_quote.ensures ∙ c.if-is_quote.false) (sym c.stops.ensures ∙ c.if-stops.false)

pub outside_quotes-returns : goal.outside_quotes-returns
outside_quotes-returns g t c =
    let k = c.loop-i in
    (omega (arith, k.invariant, outside_end g.S.Scan.escapes g.S.Scan.stop c.args.s.now k.i c.loop-i-test.false, k.auto.i-end, c.requires.at_in_bounds, c.loop-i-test.false), omega arith)

pub inside_quotes-returns-then-is_quote : goal.inside_quotes-returns-then-is_quote
inside_quotes-returns-then-is_quote g t c =
    let k = c.loop-i in
    (c.outside_quotes.ensures.0 ∙ sym (k.invariant ∙ inside_quote _ g.S.Scan.stop c.args.s.now k.i c.loop-i-test.true (sym c.is_quote.ensures ∙ c.if-is_quote.true)), c.outside_quotes.ensures.1)

pub inside_quotes-loop-i-preserved : goal.inside_quotes-loop-i-preserved
inside_quotes-loop-i-preserved g t c =
    let k = c.loop-i in
    k.invariant ∙ inside_go _ g.S.Scan.stop c.args.s.now k.i c.loop-i-test.true (sym c.is_quote.ensures ∙ c.if-is_quote.false)

pub inside_quotes-returns : goal.inside_quotes-returns
inside_quotes-returns g t c =
    let k = c.loop-i in
    (omega (arith, k.invariant, inside_end g.S.Scan.escapes g.S.Scan.stop c.args.s.now k.i c.loop-i-test.false, k.auto.i-end, c.requires.at_in_bounds, c.loop-i-test.false), omega arith)
