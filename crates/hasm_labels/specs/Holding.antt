-- The labels that instructions took, as the pass over a text's lines holds them. Assumes nothing.
use Rattle.std.specs.Prelude.{◌≡◌, ℕ, ◌+◌, ◌≤◌, ◌<◌, true, List, [], ◌∷◌, ◌++◌, length, take, drop, Option, Some, None}
use Rattle.std.specs.Option.{is_some}
use Rattle.lists.specs.Scan.{part}
use Rattle.slices.specs.Answers.{found_of}
use Rattle.spec_hasm.specs.Assemble.{LabelLine, LabelAt, holding, label_offset}
use Rattle.hasm_labels.specs.Slots.{labels_in}
use Rattle.hasm_labels.specs.LongLabels.{long_of}
use Rattle.hasm_labels.specs.declared.hold_label.Progress.{Progress}
use Rattle.hasm_labels.specs.declared.hold_label.LabelPart.{LabelPart}

-- the pass in front of the first line
abbrev pub at_start : Progress
at_start = record { waiting = None; count = 0; kept = 0; offset = 0; place = None }

-- where the text of a label stands, an empty one where there is none
abbrev pub part_in : Option LabelPart → LabelPart
part_in (Some w) = w
part_in None = record { start = 0; size = 0 }

-- an offset, 0 where there is none
abbrev pub offset_in : Option ℕ → ℕ
offset_in (Some k) = k
offset_in None = 0

-- the label that waits, at the offset where p stands
abbrev pub waiting_label : List ℕ → Progress → LabelAt
waiting_label text p = record { text = part text (part_in p.waiting).start (part_in p.waiting).size; offset = p.offset }

-- the label lines that wait for an instruction, the nearest first, of which the code knows only that one's text
abbrev pub Waits : List ℕ → Progress → List LabelLine → Type 0
Waits text p [] = p.waiting ≡ None
Waits text p (l ∷ ls) = (is_some p.waiting ≡ true) × (l.text ≡ part text (part_in p.waiting).start (part_in p.waiting).size)

-- all numbers are below 2 ^ 32, also with a label or an instruction more
pub record Small (p : Progress) : Type 0 where
  pub start : (part_in p.waiting).start < 4294967296
  pub size : (part_in p.waiting).size < 4294967296
  pub count : p.count < 4294967295
  pub kept : p.kept < 4294967295
  pub offset : p.offset < 4294967231

-- the labels taken so far: how many, the offset of the last one of text t, and the long ones themselves, as many as fit; the slots
-- behind them, which were `slots₀`, are as they were
pub record Noted (text t : List ℕ) (slots₀ : List (List ℕ)) (labels : List LabelAt) (p : Progress) (slots : List (List ℕ)) : Type 0 where
  pub counted : p.count ≡ length labels
  pub last : p.place ≡ found_of (label_offset labels t)
  pub long : p.kept ≡ length (long_of labels)
  pub stored : labels_in text (take p.kept slots) ≡ take (length slots) (long_of labels)
  pub behind : drop p.kept slots ≡ drop p.kept slots₀

-- the long labels behind a step: those before it, or with the label that waited behind them
pub data LongMore (text : List ℕ) (p p' : Progress) (before after : List LabelAt) : Type 0 where
  none : p'.kept ≡ p.kept → after ≡ before → LongMore text p p' before after
  one : p'.kept ≡ p.kept + 1 → after ≡ before ++ (waiting_label text p ∷ []) → LongMore text p p' before after

abbrev pub KeptMore : List ℕ → Progress → Progress → Type 0
KeptMore text p p' =
    (waiting : List LabelLine) → Waits text p waiting → (labels : List LabelAt) → LongMore text p p' (long_of labels) (long_of (labels ++ holding waiting p.offset []))

-- with label lines that wait, the nearest one's label is taken, at the offset where p stands
abbrev pub NotedMore : List ℕ → List ℕ → List (List ℕ) → Progress → List (List ℕ) → Progress → Type 0
NotedMore text t slots p slots' p' =
    (slots₀ : List (List ℕ)) (waiting : List LabelLine) → Waits text p waiting → (labels : List LabelAt) → Noted text t slots₀ labels p slots
    → Noted text t slots₀ (labels ++ holding waiting p.offset []) p' slots'

-- the label that waited is taken, if there was one: "one entry for each label line that an instruction takes"
pub record Held (text t : List ℕ) (slots : List (List ℕ)) (p : Progress) (slots' : List (List ℕ)) (p' : Progress) : Type 0 where
  pub noted : NotedMore text t slots p slots' p'
  pub long : KeptMore text p p'
  pub offset : p'.offset ≡ p.offset
  pub count : p'.count ≤ p.count + 1
  pub kept : p'.kept ≤ p.kept + 1
  pub place : (n : ℕ) → p.offset ≤ n → offset_in p.place ≤ n → offset_in p'.place ≤ n
