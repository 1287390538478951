use Rattle.sheet.specs.Answers.{step_of}
use Rattle.spec_sheet.proofs.ScanLaws.{name_here, name_off}
use mathlib.Core.Path.{sym, ◌∙◌, ap}
use Rattle.sheet.proofs.scan.name_at.Goals as goal

pub returns-then-may_be_name : goal.returns-then-may_be_name
unfolding step_of
returns-then-may_be_name c =
    let a = c.args in
    sym (ap step_of (name_here a.s.now a.at c.count_name-k.result c.count_name-k.ensures.0 (sym c.may_be_name.ensures ∙ c.if-may_be_name.true)))

pub returns : goal.returns
unfolding step_of
returns c =
    let a = c.args in
    sym (ap step_of (name_off a.s.now a.at c.count_name-k.result c.count_name-k.ensures.0 (sym c.may_be_name.ensures ∙ c.if-may_be_name.false)))
