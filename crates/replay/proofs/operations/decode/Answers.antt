use native.Mathlib.Omega.{arith}
use Prim.Native.Nat.{◌/◌}
use lib.ListN.{length}
use Rattle.replay.proofs.WordLaws.{front_length}
use mathlib.Core.Path.{◌∙◌}
use Rattle.replay.proofs.OperationLaws.{decoded_large, decoded_small}
use Rattle.replay.proofs.operations.decode.Goals as goal

pub returns-then-n-gt-MOST_WORDS : goal.returns-then-n-gt-MOST_WORDS
returns-then-n-gt-MOST_WORDS c = decoded_large _ _ _ c.if-n-gt-MOST_WORDS.true

pub returns : goal.returns
returns c =
    let a = c.args in
    c.decode_words.ensures ∙ decoded_small a.sheet.now a.body.now a.lent.now c.if-n-gt-MOST_WORDS.false _ (front_length c.zeroed-words.result (length a.lent.now / 8) (omega (arith, c.zeroed-words.type_inv)))
