-- What the name of an instruction and the number of its operands give. Assumes nothing.
use Rattle.std.specs.Prelude.{◌≡◌, ℕ, ◌≤◌, List, ◌∷◌, Result, Ok, Err}
use Rattle.answers.specs.declared.refusal.Refusal.{Refusal}
use Rattle.spec_inputs.specs.Context.{Context}
use Rattle.spec_hasm.specs.Split.{instruction_name, instruction_operands}
use Rattle.spec_hasm.specs.Assemble.{Assembled, LabelLine, Code, unless_bad_name, size_in}
use Rattle.spec_hasm.specs.Assemble.Assembled.{not_assembled}

-- the instruction s on line n, behind label lines
abbrev pub code_of : ℕ → List LabelLine → List ℕ → Code
code_of n labels s = record { line = n; labels = labels; name = instruction_name s; operands = instruction_operands s }

-- it is refused
abbrev pub RefusedBy : Context → ℕ → List ℕ → Refusal → Type 0
RefusedBy e n s x = (labels : List LabelLine) (cs : List Code) (rest : Assembled) → unless_bad_name e (code_of n labels s ∷ cs) rest ≡ not_assembled x

-- it is not, and has k bytes
pub record Sized (e : Context) (n : ℕ) (s : List ℕ) (k : ℕ) : Type 0 where
  pub passes : (labels : List LabelLine) (cs : List Code) (rest : Assembled) → unless_bad_name e (code_of n labels s ∷ cs) rest ≡ unless_bad_name e cs rest
  pub size : (labels : List LabelLine) → size_in e (code_of n labels s) ≡ k
  pub short : k ≤ 65

-- "then 4 and 5 over all lines", of one instruction
abbrev pub NameRead : Context → ℕ → List ℕ → Result ℕ Refusal → Type 0
NameRead e n s (Ok k) = Sized e n s k
NameRead e n s (Err x) = RefusedBy e n s x
