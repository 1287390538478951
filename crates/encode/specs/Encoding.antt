-- What encoding all records answers, and what it writes. Assumes nothing.
use Rattle.std.specs.Prelude.{◌≡◌, List, ℕ}
use Rattle.lists.specs.Write.{Put}
use Rattle.answers.specs.declared.refusal.Refusal.{Refusal}
use Rattle.spec_body.specs.Encode.{Encoded}
use Rattle.spec_body.specs.Encode.Encoded.{encoded, not_encoded}
use Rattle.std.specs.Prelude.{Result, Ok, Err}

-- all records, which are encoded to x, were written from the front of the buffer: it was `out` and is `out'`, and r was answered
pub data Encoding (x : Encoded) (out out' : List ℕ) (r : Result ℕ Refusal) : Type 0 where
  all : (bs : List ℕ) (k : ℕ) → x ≡ encoded bs → r ≡ Ok k → Put out 0 bs out' k → Encoding x out out' r
  refuses : (f : Refusal) → x ≡ not_encoded f → r ≡ Err f → Encoding x out out' r
