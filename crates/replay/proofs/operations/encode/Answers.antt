use native.Mathlib.Omega.{arith}
use mathlib.Core.Path.{◌∙◌}
use Rattle.replay.proofs.OperationLaws.{was_ended, encoded_cut, encoded_large, encoded_small}
use Rattle.replay.proofs.operations.encode.Goals as goal

pub returns-then-input-ne0 : goal.returns-then-input-ne0
returns-then-input-ne0 c = encoded_cut _ _ _ c.if-input-ne0.true

pub returns-then-n-gt-MOST_WORDS : goal.returns-then-n-gt-MOST_WORDS
returns-then-n-gt-MOST_WORDS c = encoded_large _ _ _ c.if-input-ne0.false c.if-n-gt-MOST_WORDS.true

pub returns : goal.returns
returns c =
    let a = c.args in
    was_ended _ _ _ c.desk_encode.ensures
    ∙ encoded_small a.sheet.now a.input.now a.out.now c.if-input-ne0.false c.if-n-gt-MOST_WORDS.false c.zeroed-words.result _ (omega (arith, c.zeroed-words.type_inv)) c.words_of.ensures
