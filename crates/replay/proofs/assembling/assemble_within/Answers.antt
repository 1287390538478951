use mathlib.Core.Path.{◌∙◌}
use native.Mathlib.Omega.{arith}
use Rattle.replay.proofs.WordLaws.{front_length}
use Rattle.replay.proofs.OperationLaws.{no_numbers, many_strings, many_entries, from_numbers}
use Rattle.replay.proofs.assembling.assemble_within.Goals as goal

pub returns-then-input-lt12 : goal.returns-then-input-lt12
returns-then-input-lt12 c = no_numbers _ _ _ c.if-input-lt12.true

pub returns-then-strings-gt64 : goal.returns-then-strings-gt64
returns-then-strings-gt64 c =
    many_strings _ _ _ c.if-input-lt12.false c.size_at-strings.ensures.0 c.size_at-lent.ensures.0 c.if-strings-gt64.true

pub returns-then-ends-strings : goal.returns-then-ends-strings
returns-then-ends-strings c = absurd (omega arith)

pub returns-then-labels-lent : goal.returns-then-labels-lent
returns-then-labels-lent c =
    many_entries _ _ _ c.if-input-lt12.false c.size_at-strings.ensures.0 c.size_at-lent.ensures.0 c.if-strings-gt64.false (omega (arith, c.if-labels-lent.true, c.requires.1))

pub returns : goal.returns
returns c =
    let a = c.args in
    let few = c.if-strings-gt64.false in
    let lent = c.size_at-lent in
    c.assemble_parts.ensures
    ∙ from_numbers a.sheet.now a.input.now a.out.now c.if-input-lt12.false c.size_at-strings.ensures.0 lent.ensures.0 few c.size_at-size.ensures.0 (omega (arith, c.if-labels-lent.false, c.requires.1)) _ _
    (front_length a.ends.now c.size_at-strings.result (omega (arith, few, c.requires.0)))
    (front_length a.labels.now lent.result c.if-labels-lent.false)
