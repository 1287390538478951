-- A text whose names are good, and what is known of its labels. Assumes nothing.
use Rattle.std.specs.Prelude.{◌≡◌, ℕ, ◌<◌, List}
use Rattle.slices.specs.Answers.{found_of}
use Rattle.spec_inputs.specs.Context.{Context}
use Rattle.spec_hasm.specs.Assemble.{Assembled, codes_of, unless_bad_name, labels_from, label_offset}
use Rattle.hasm_labels.specs.LongLabels.{bare_label, long_of}
use Rattle.hasm_labels.specs.Keys.{LabelsIndexed}
use Rattle.hasm_labels.specs.declared.label_target.Known.{Known}

-- neither 4 nor 5 refuses a line; the index has all long labels, where it has heads; and the offset of the last label `L`
pub record Labelled (e : Context) (text : List ℕ) (slots : List (List ℕ)) (index : List ℕ) (known : Known) : Type 0 where
  pub named : (rest : Assembled) → unless_bad_name e (codes_of e text) rest ≡ rest
  pub indexed : 0 < known.heads → LabelsIndexed known.owned text slots index known.heads (long_of (labels_from e 0 (codes_of e text)))
  pub bare : known.place ≡ found_of (label_offset (labels_from e 0 (codes_of e text)) bare_label)
