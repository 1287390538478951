use Rattle.sheet.specs.Answers.{step_of}
use Rattle.sheet.proofs.AnswerLaws.{was_next, was_off, was_place, was_no_place}
use Rattle.sheet.proofs.KeyedLaws.{no_key, no_number, no_tail, keyed_read}
use mathlib.Core.Path.{sym, ◌∙◌, ap}
use Rattle.sheet.proofs.scan.keyed_at.Goals as goal

pub returns-in_err-start : goal.returns-in_err-start
unfolding step_of
returns-in_err-start c =
    let a = c.args in
    let k = was_no_place _ (sym c.literal_at.ensures ∙ c.in_err-start.was) in
    c.from_residual.ensures ∙ sym (ap step_of (no_key a.key.now a.most a.tail.now a.s.now a.at k))

pub returns-in_err-number : goal.returns-in_err-number
unfolding step_of
returns-in_err-number c =
    let a = c.args in
    let k = was_place _ (sym c.literal_at.ensures ∙ c.in_ok-start.was) in
    let n = was_off _ (sym c.number_at.ensures ∙ c.in_err-number.was) in
    c.from_residual-in_err-number.ensures ∙ sym (ap step_of (no_number a.key.now a.most a.tail.now a.s.now a.at k.is_next n))

pub returns-in_err-next : goal.returns-in_err-next
unfolding step_of
returns-in_err-next c =
    let a = c.args in
    let k = was_place _ (sym c.literal_at.ensures ∙ c.in_ok-start.was) in
    let n = was_next _ (sym c.number_at.ensures ∙ c.in_ok-number.was) in
    let t = was_no_place _ (sym c.literal_at-2.ensures ∙ c.in_err-next.was) in
    c.from_residual-in_err-next.ensures ∙ sym (ap step_of (no_tail a.key.now a.most a.tail.now a.s.now a.at k.is_next n t))

pub returns : goal.returns
unfolding step_of
returns c =
    let a = c.args in
    let k = was_place _ (sym c.literal_at.ensures ∙ c.in_ok-start.was) in
    let n = was_next _ (sym c.number_at.ensures ∙ c.in_ok-number.was) in
    let t = was_place _ (sym c.literal_at-2.ensures ∙ c.in_ok-next.was) in
    sym (ap step_of (keyed_read a.key.now a.most a.tail.now a.s.now a.at k.is_next n t.is_next))
