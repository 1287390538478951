use mathlib.Core.Path.{ap, sym, ◌∙◌}
use native.Mathlib.Omega.{arith}
use Rattle.spec_strings.proofs.TableSteps.{fault_go, fault_stop, fault_end}
use Rattle.slices.specs.Answers.{found_of}
use Rattle.strings.proofs.table.StringTable.walk_entries.Goals as goal

pub returns-then-not-well_formed : goal.returns-then-not-well_formed
returns-then-not-well_formed c =
    sym (ap found_of (c.loop-i.invariant.1 ∙ fault_stop _ _ _ _ c.loop-i-test.true c.wide-end.ensures.0 (sym c.well_formed-in-loop-i.ensures ∙ c.if-not-well_formed.true)))

pub loop-i-preserved : goal.loop-i-preserved
loop-i-preserved c =
    (omega arith, c.loop-i.invariant.1 ∙ fault_go _ _ _ _ c.loop-i-test.true c.wide-end.ensures.0 (sym c.well_formed-in-loop-i.ensures ∙ c.if-not-well_formed.false))

pub returns : goal.returns
returns c = sym (ap found_of (c.loop-i.invariant.1 ∙ fault_end _ _ _ _ c.loop-i-test.false))
