-- What all instructions of a text evaluate to. Assumes nothing.
use Rattle.std.specs.Prelude.{◌≡◌, List, ℕ, Result, Ok, Err}
use Rattle.lists.specs.Write.{Put}
use Rattle.spec_hasm.specs.Assemble.{Assembled}
use Rattle.spec_hasm.specs.Assemble.Assembled.{assembled, not_assembled}
use Rattle.answers.specs.declared.refusal.Refusal.{Refusal}

-- a text's instructions x were written, k bytes of them
pub record BodyPut (x : Assembled) (out out' : List ℕ) (k : ℕ) : Type 0 where
  pub bytes : List ℕ
  pub whole : x ≡ assembled bytes
  pub put : Put out 0 bytes out' k

-- or one is refused
abbrev pub BytesPut : Assembled → List ℕ → List ℕ → Result ℕ Refusal → Type 0
BytesPut x out out' (Ok k) = BodyPut x out out' k
BytesPut x out out' (Err y) = x ≡ not_assembled y
