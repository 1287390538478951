use Rattle.list_labels.proofs.FlowLaws.{named_gap, named}
use Rattle.spec_listing.specs.Labels.{ends_flow}
use mathlib.Core.Path.{sym, ap, ◌∙◌}
use Rattle.list_labels.proofs.flow_end.ends_flow.Goals as goal

pub returns-then-size-eq0 : goal.returns-then-size-eq0
returns-then-size-eq0 c = let a = c.args in sym (named_gap a.text.now a.start a.size c.if-size-eq0.true)

pub returns : goal.returns
returns c =
    let a = c.args in
    c.is_flow_end.ensures ∙ (ap ends_flow c.part_of.ensures ∙ sym (named a.text.now a.start a.size c.if-size-eq0.false))
