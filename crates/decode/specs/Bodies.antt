-- What the decoder's inner functions answer and leave. Assumes nothing.
use Rattle.std.specs.Prelude.{ℕ, ◌+◌, ◌*◌, List, ◌++◌, leb, length, take, drop, Result, Ok, Err}
use Rattle.lists.specs.Choice.{pick}
use Rattle.spec_body.specs.Decode as spec
use Rattle.spec_body.specs.Decode.Decoded.{decoded, not_decoded}
use Rattle.answers.specs.declared.refusal.Refusal.{Refusal}

-- lent words with a record as the n-th, where there is room for it
unfoldable pub stored_at : List ℕ → ℕ → List ℕ → List ℕ
stored_at out n r = pick (leb (n * 20 + 20) (length out)) (take (n * 20) out ++ (r ++ drop (n * 20 + 20) out)) out

-- a body's records, counted, or why it has none
unfoldable pub body_answer : spec.Decoded → Result ℕ Refusal
body_answer (decoded rs) = Ok (length rs)
body_answer (not_decoded x) = Err x
