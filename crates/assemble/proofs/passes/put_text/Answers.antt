use Rattle.assemble.specs.Contexts.{tables_context}
use Rattle.assemble.proofs.PassLaws.{line_refused, refused_text}
use mathlib.Core.Path.{refl}
use Rattle.assemble.proofs.passes.put_text.Goals as goal

pub returns-in-Err-clause-ended : goal.returns-in-Err-clause-ended
returns-in-Err-clause-ended c =
    let a = c.args in
    refused_text _ _ _ (line_refused (tables_context a.tables a.strings.bytes.now a.strings.ends.now) a.text.now c.in-Err.ensures) refl refl

pub name_and_put-requires-clause-rest_value : goal.name_and_put-requires-clause-rest_value
name_and_put-requires-clause-rest_value c = c.in_default.ensures
