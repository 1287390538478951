use mathlib.Core.Path.{ap, sym, ◌∙◌}
use native.Mathlib.Omega.{arith}
use Rattle.spec_strings.proofs.TableSteps.{lookup_go, lookup_stop, lookup_end}
use Rattle.slices.specs.Answers.{found_of}
use Rattle.strings.proofs.table.StringTable.lookup.Goals as goal

pub returns-then-same_bytes : goal.returns-then-same_bytes
returns-then-same_bytes c =
    let t = c.args.self in
    sym (ap found_of (c.loop-i.invariant.1 ∙ lookup_stop t.bytes.now t.ends.now _ _ c.loop-i-test.true c.wide-end.ensures.0 c.args.text.now c.part-entry.ensures (sym c.same_bytes.ensures ∙ c.if-same_bytes.true)))

pub loop-i-preserved : goal.loop-i-preserved
loop-i-preserved c =
    let t = c.args.self in
    (omega arith, c.loop-i.invariant.1 ∙ lookup_go t.bytes.now t.ends.now _ _ c.loop-i-test.true c.wide-end.ensures.0 c.args.text.now c.part-entry.ensures (sym c.same_bytes.ensures ∙ c.if-same_bytes.false))

pub returns : goal.returns
returns c = sym (ap found_of (c.loop-i.invariant.1 ∙ lookup_end _ _ _ _ _ c.loop-i-test.false))
