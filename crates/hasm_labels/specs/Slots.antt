-- The label list of the assembler: "A label is held by its text part and offset". Assumes nothing.
use Rattle.std.specs.Prelude.{List, [], ◌∷◌, ℕ, get_or}
use Rattle.lists.specs.Scan.{part}
use Rattle.spec_hasm.specs.Assemble.{LabelAt}
use Rattle.hasm_labels.specs.declared.label_entry.LabelPlace.{LabelPlace}

-- what a slot holds: start and length of the label's text, and its offset
abbrev pub place_in : List ℕ → LabelPlace
place_in slot = record { start = get_or slot 0 0; size = get_or slot 1 0; offset = get_or slot 2 0 }

-- the label of a slot, and the labels of a list of slots
abbrev pub label_in : List ℕ → List ℕ → LabelAt
label_in text slot = record { text = part text (get_or slot 0 0) (get_or slot 1 0); offset = get_or slot 2 0 }

unfoldable pub labels_in : List ℕ → List (List ℕ) → List LabelAt
labels_in text [] = []
labels_in text (slot ∷ slots) = label_in text slot ∷ labels_in text slots
