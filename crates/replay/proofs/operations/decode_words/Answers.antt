use mathlib.Core.Path.{ap, ◌∙◌}
use mathlib.Core.List.{List}
use Prim.Native.Nat.{ℕ}
use Rattle.replay.specs.Performs.{decoded_into}
use Rattle.replay.proofs.OperationLaws.{words_decoded}
use Rattle.replay.proofs.operations.decode_words.Goals as goal

pub returns : goal.returns
returns c =
    let a = c.args in
    words_decoded _ _ _ _ c.desk_decode-a.ensures c.bytes_of.ensures
    ∙ ap (λ (w : List ℕ). decoded_into a.sheet.now a.body.now a.lent.now w) c.words_of.ensures
