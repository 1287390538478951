-- What the pass over a text's names and labels answers. Assumes nothing.
use Rattle.std.specs.Prelude.{◌≡◌, ℕ, ◌<◌, ◌^◌, true, List, [], ◌∷◌, length, take, drop, Result, Ok, Err}
use Rattle.slices.specs.Answers.{found_of}
use Rattle.answers.specs.Report.{cleared}
use Rattle.answers.specs.declared.refusal.Refusal.{Refusal}
use Rattle.spec_inputs.specs.Context.{Context}
use Rattle.spec_hasm.specs.Assemble.{Assembled, codes_of, unless_bad_name, labels_from, label_offset}
use Rattle.spec_hasm.specs.Assemble.Assembled.{not_assembled}
use Rattle.hasm_labels.specs.Slots.{labels_in}
use Rattle.hasm_labels.specs.Holding.{offset_in}
use Rattle.hasm_labels.specs.LongLabels.{long_of}
use Rattle.hasm_labels.specs.Keys.{LabelsIndexed}
use Rattle.hasm_labels.specs.declared.names_pass.Taken.{Taken}

-- no name is refused: "one entry for each label line that an instruction takes", of which the long ones are stored in front where
-- they fit, and the slots behind are as they were; the index of m heads holds the long ones, where it was made; and the offset of
-- the label t
pub record AllNamed (e : Context) (text t : List ℕ) (slots slots' : List (List ℕ)) (m : ℕ) (index : List ℕ) (taken : Taken) : Type 0 where
  pub named : (rest : Assembled) → unless_bad_name e (codes_of e text) rest ≡ rest
  pub counted : taken.count ≡ length (labels_from e 0 (codes_of e text))
  pub place : taken.place ≡ found_of (label_offset (labels_from e 0 (codes_of e text)) t)
  pub small : offset_in taken.place < 2 ^ 32
  pub long : taken.kept ≡ length (long_of (labels_from e 0 (codes_of e text)))
  pub stored : labels_in text (take taken.kept slots') ≡ take (length slots') (long_of (labels_from e 0 (codes_of e text)))
  pub behind : drop taken.kept slots' ≡ drop taken.kept slots
  pub indexed : taken.indexed ≡ true → (any : List (List ℕ)) → LabelsIndexed true text any index m (long_of (labels_from e 0 (codes_of e text)))

-- "then 4 and 5 over all lines"
abbrev pub NamesRead : Context → List ℕ → List ℕ → List (List ℕ) → List (List ℕ) → ℕ → List ℕ → Result Taken Refusal → Type 0
NamesRead e text t slots slots' m index (Ok taken) = AllNamed e text t slots slots' m index taken
NamesRead e text t slots slots' m index (Err x) = ((rest : Assembled) → unless_bad_name e (codes_of e text) rest ≡ not_assembled x) × (slots' ≡ cleared (0 ∷ 0 ∷ 0 ∷ []) slots)
