-- What the functions that encode a record answer, and what they write. Assumes nothing.
use Rattle.std.specs.Prelude.{◌≡◌, List, ◌∷◌, ℕ}
use Rattle.answers.specs.declared.refusal.Refusal.{Refusal}
use Rattle.spec_body.specs.Encode.{Encoded, append_to}
use Rattle.spec_body.specs.Encode.Encoded.{not_encoded}
use Rattle.lists.specs.Write.{Ahead}
use Rattle.std.specs.Prelude.{Result, Ok, Err}

-- a record was written likewise, and ahead of the next one, where x is what it and those behind it are encoded to
pub data Turn (x : Encoded → Encoded) (out : List ℕ) (at spare : ℕ) (out' : List ℕ) (r : Result ℕ Refusal) : Type 0 where
  went : (b : ℕ) (bs : List ℕ) (k : ℕ) → ((rest : Encoded) → x rest ≡ append_to (b ∷ bs) rest) → r ≡ Ok k → Ahead out at (b ∷ bs) spare out' k → Turn x out at spare out' r
  stopped : (f : Refusal) → ((rest : Encoded) → x rest ≡ not_encoded f) → r ≡ Err f → Turn x out at spare out' r
