use Rattle.operation.proofs.EndedLaws.{few_strings}
use Rattle.assemble.proofs.OperationLaws.{large_text, read_text, refused_inputs}
use mathlib.Core.Path.{refl}
use native.Mathlib.Omega.{arith}
use borrow.Author.Rules.{rules}
use Rattle.assemble.proofs.assemble.assemble_given.Goals as goal

pub returns-then-text-gt-TEXT_LIMIT-clause-ended : goal.returns-then-text-gt-TEXT_LIMIT-clause-ended
returns-then-text-gt-TEXT_LIMIT-clause-ended c =
    let a = c.args in
    large_text a.sheet.now a.strings.bytes.now a.strings.ends.now a.text.now _ _ c.if-text-gt-TEXT_LIMIT.true refl refl

pub returns-in-Err-clause-ended : goal.returns-in-Err-clause-ended
returns-in-Err-clause-ended c =
    let a = c.args in
    refused_inputs a.sheet.now a.strings.bytes.now a.strings.ends.now a.text.now _ _ c.if-text-gt-TEXT_LIMIT.false c.in-Err.ensures refl refl

pub with_words-requires-clause-room : goal.with_words-requires-clause-room
with_words-requires-clause-room c =
    let f = few_strings c.in_default.ensures in
    (omega (arith, f, c.index_size.ensures), λ space l. (record { each = omega (arith, l, c.index_size.ensures); few = f }, c.if-text-gt-TEXT_LIMIT.false))

pub returns-clause-ended : goal.returns-clause-ended
returns-clause-ended c =
    let a = c.args in
    read_text a.sheet.now a.strings.bytes.now a.strings.ends.now a.text.now c.if-text-gt-TEXT_LIMIT.false c.in_default.ensures (search rules)
