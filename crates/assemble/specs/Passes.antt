-- What a text evaluates to, and what a pass over it leaves for the next. Assumes nothing.
use Rattle.std.specs.Prelude.{◌≡◌, List, ℕ, ◌≤◌, length, take}
use Rattle.slices.specs.Answers.{found_of}
use Rattle.answers.specs.Outcome.{Outcome}
use Rattle.spec_inputs.specs.Context.{Context}
use Rattle.spec_hasm.specs.Assemble.{Assembled, codes_of, unless_bad_name, labels_from, label_offset, assemble_text, assemble_entries}
use Rattle.spec_hasm.specs.Operation.{assemble_outcome}
use Rattle.hasm_labels.specs.Slots.{labels_in}
use Rattle.hasm_labels.specs.LongLabels.{bare_label, long_of}
use Rattle.hasm_labels.specs.declared.names_pass.Taken.{Taken}
use Rattle.hasm_labels.specs.declared.source.Source.{Source}
use Rattle.strings.specs.Keys.{text_space, TextsIndexed}
use Rattle.hasm_labels.specs.Sources.{context_of}

-- what a text evaluates to
abbrev pub text_outcome : Context → List ℕ → Outcome
text_outcome e text = assemble_outcome (assemble_entries e text) (assemble_text e text)

-- neither 4 nor 5 refuses a line; the labels are counted, the slots hold the long ones where they fit, and the offset of the last
-- label `L` is known
pub record Named (e : Context) (text : List ℕ) (taken : Taken) (slots : List (List ℕ)) : Type 0 where
  pub named : (rest : Assembled) → unless_bad_name e (codes_of e text) rest ≡ rest
  pub counted : taken.count ≡ assemble_entries e text
  pub held : taken.kept ≤ length slots → labels_in text (take taken.kept slots) ≡ long_of (labels_from e 0 (codes_of e text))
  pub bare : taken.place ≡ found_of (label_offset (labels_from e 0 (codes_of e text)) bare_label)

-- under a sheet's tables, whatever the strings are
abbrev pub NamesGood : Source → Taken → List (List ℕ) → Type 0
NamesGood s taken slots = (bytes ends : List ℕ) → Named (context_of s bytes ends) s.text.now taken slots

-- space for the texts' index
pub record IdSpace (ids ends : List ℕ) : Type 0 where
  pub each : text_space (length ends) ≤ length ids
  pub few : length ends ≤ 65536

-- that space behind the passes: it holds the index, or is as it was, where a pass before the writing refused the text
pub data IdsLeft (bytes ends before after : List ℕ) : Type 0 where
  filled : TextsIndexed bytes ends after → IdsLeft bytes ends before after
  kept : after ≡ before → IdsLeft bytes ends before after
