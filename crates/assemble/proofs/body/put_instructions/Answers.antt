use Rattle.assemble.proofs.BodyTurns.{text_start, text_end, text_line, text_turn}
use Rattle.assemble.proofs.ValueLaws.{map_ok, map_error}
use Rattle.sheet.proofs.AnswerLaws.{is_error}
use Rattle.assemble.specs.Contexts.{text_in, under, labels_under}
use mathlib.Core.Path.{◌≡◌}
use Rattle.std.proofs.Common.{Ok, Err}
use Rattle.answers.specs.declared.refusal.Refusal.TheVariants.{BadOperand}
use native.Mathlib.Omega.{arith}
use borrow.Author.Rules.{rules}
use Rattle.assemble.proofs.body.put_instructions.Goals as goal

pub loop-at-init : goal.loop-at-init
loop-at-init c = let x = c.args.context in text_start (under x) (labels_under x) (text_in x) c.args.out.now (omega arith) x.labels.source.short

pub put_line-requires-clause-line_at : goal.put_line-requires-clause-line_at
put_line-requires-clause-line_at c =
    let x = c.args.context in
    text_line (under x) (labels_under x) (text_in x) c.loop-at.invariant c.line_end-end.result c.loop-at-test.true c.line_end-end.ensures.0 x.labels.source.limited

pub returns-in_err-place : goal.returns-in_err-place
returns-in_err-place c =
    let m = map_error _ _ _ c.map_err.ensures.cases c.in_err-place.was in
    let e : c.put_line.result ≡ Err m.fault = m.was in
    let q : c.in_err-place.field-0.0 ≡ BadOperand m.fault.fault c.loop-at.n m.fault.operand = search (rules, m.becomes) in
    let z = rw e at (c.put_line.ensures _ _ c.loop-at.invariant.going) in
    rw (is_error _ c.from_residual.ensures.1, q) z

pub loop-at-preserved : goal.loop-at-preserved
loop-at-preserved c =
    let x = c.args.context in
    let v : c.put_line.result ≡ Ok c.in_ok-place.place = map_ok _ _ _ c.map_err.ensures.cases c.in_ok-place.was in
    let w = rw v at (c.put_line.ensures _ _ c.loop-at.invariant.going) in
    text_turn (under x) (labels_under x) (text_in x) c.loop-at.invariant c.line_end-end.result c.loop-at-test.true c.line_end-end.ensures.0 x.labels.source.limited _ w

pub returns : goal.returns
returns c = let x = c.args.context in text_end (under x) (labels_under x) (text_in x) c.loop-at.invariant c.loop-at-test.false
