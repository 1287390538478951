use Rattle.assemble.specs.Contexts.{tables_context}
use Rattle.hasm_read.proofs.CheckLaws.{good_short}
use Rattle.assemble.proofs.PassLaws.{name_refused, refused_text}
use mathlib.Core.Path.{refl}
use Rattle.assemble.proofs.passes.name_and_put.Goals as goal

pub invariant_of-source-clause-short : goal.invariant_of-source-clause-short
invariant_of-source-clause-short c = good_short c.args.text.now c.requires.rest_value

pub returns-in-Err-clause-ended : goal.returns-in-Err-clause-ended
returns-in-Err-clause-ended c =
    let a = c.args in
    let read = c.in-Err.ensures a.strings.bytes.now a.strings.ends.now in
    refused_text _ _ _ (name_refused (tables_context a.tables a.strings.bytes.now a.strings.ends.now) a.text.now c.requires.rest_value read.0) refl refl

pub returns-in-Err-clause-labels_after : goal.returns-in-Err-clause-labels_after
returns-in-Err-clause-labels_after c = let a = c.args in (c.in-Err.ensures a.strings.bytes.now a.strings.ends.now).1
