use mathlib.Core.Path.{◌∙◌}
use native.Mathlib.Omega.{arith}
use Rattle.replay.proofs.WordLaws.{front_length}
use Rattle.replay.proofs.TurnLaws.{too_many, lent_some}
use Rattle.replay.proofs.lend.Goals as goal

pub returns-then-size-gt-MOST_BYTES : goal.returns-then-size-gt-MOST_BYTES
returns-then-size-gt-MOST_BYTES c =
    let a = c.args in
    too_many a.head a.sheet.now a.input.now a.expected.now c.lent_size-size.ensures c.if-size-gt-MOST_BYTES.true

pub returns : goal.returns
returns c =
    let a = c.args in
    c.compared.ensures
    ∙ lent_some a.head a.sheet.now a.input.now a.expected.now c.lent_size-size.ensures c.if-size-gt-MOST_BYTES.false _ (front_length c.zeroed-lent.result c.lent_size-size.result (omega (arith, c.zeroed-lent.type_inv, c.if-size-gt-MOST_BYTES.false)))
