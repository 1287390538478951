use mathlib.Core.Path.{sym, ◌∙◌}
use lib.ListN.{length}
use Rattle.std.proofs.lemmas.Result.{err_from_is_err_and}
use Rattle.replay.proofs.TurnLaws.{stopped_at, other_answer, other_bytes, as_recorded}
use Rattle.replay.proofs.compared.Goals as goal

pub returns-in_err-a : goal.returns-in_err-a
returns-in_err-a c =
    let a = c.args in
    let p = err_from_is_err_and c.from_residual.result c.from_residual.ensures.1 in
    rw (p.1, p.2) (stopped_at a.head a.sheet.now a.input.now a.expected.now (length a.lent.now) (c.fill.ensures.after (λ y e. e)) c.perform.ensures c.in_err-a.was)

pub returns-then-not-same_answer : goal.returns-then-not-same_answer
returns-then-not-same_answer c =
    let a = c.args in
    other_answer a.head a.sheet.now a.input.now a.expected.now (length a.lent.now) (c.fill.ensures.after (λ y e. e)) c.perform.ensures c.in_ok-a.was (sym c.same_answer.ensures ∙ c.if-not-same_answer.true)

pub returns-then-not-is_left : goal.returns-then-not-is_left
returns-then-not-is_left c =
    let a = c.args in
    let same = sym c.same_answer.ensures ∙ c.if-not-same_answer.false in
    other_bytes a.head a.sheet.now a.input.now a.expected.now (length a.lent.now) (c.fill.ensures.after (λ y e. e)) c.perform.ensures c.in_ok-a.was same (sym c.is_left.ensures ∙ c.if-not-is_left.true)

pub returns : goal.returns
returns c =
    let a = c.args in
    let same = sym c.same_answer.ensures ∙ c.if-not-same_answer.false in
    as_recorded a.head a.sheet.now a.input.now a.expected.now (length a.lent.now) (c.fill.ensures.after (λ y e. e)) c.perform.ensures c.in_ok-a.was same (sym c.is_left.ensures ∙ c.if-not-is_left.false)
