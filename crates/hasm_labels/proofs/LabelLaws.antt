-- Laws of the labels held, and of one more of them. Assumes nothing.
use mathlib.Core.Path.{◌≡◌, refl, ap}
use mathlib.Core.Bool.{Bool, true, false}
use Prim.Native.Nat.{ℕ, suc, ◌<◌}
use mathlib.Core.List.{List, [], ◌∷◌, ◌++◌}
use lib.ListN.{length, take, get_or}
use lib.Seq.{take-suc}
use Rattle.lists.specs.Choice.{pick}
use Rattle.lists.specs.Scan.{same}
use Rattle.lists.specs.Found.Found.{found, missing}
use Rattle.spec_hasm.specs.Assemble.{LabelAt, unless_found, label_offset}
use Rattle.hasm_labels.specs.Slots.{label_in, labels_in}

-- a label more, behind the others: it is found first
pub offset_more : (ls : List LabelAt) (l : LabelAt) (t : List ℕ) → label_offset (ls ++ (l ∷ [])) t ≡ pick (same l.text t) (found l.offset) (label_offset ls t)
unfolding label_offset unless_found
offset_more [] l t = refl
offset_more (m ∷ ls) l t = rw (offset_more ls l t) (go (same l.text t))
  where
    go : (b : Bool)
        → unless_found (pick b (found l.offset) (label_offset ls t)) (pick (same m.text t) (found m.offset) missing)
        ≡ pick b (found l.offset) (unless_found (label_offset ls t) (pick (same m.text t) (found m.offset) missing))
    go true = refl
    go false = refl

pub offset_none : (t : List ℕ) → label_offset [] t ≡ missing
unfolding label_offset
offset_none t = refl

module _ (text : List ℕ) where
  pub labels_none : (slots : List (List ℕ)) → labels_in text (take 0 slots) ≡ []
  unfolding labels_in
  labels_none slots = refl

  -- a slot more, behind the others
  pub labels_more : (slots : List (List ℕ)) (s : List ℕ) → labels_in text (slots ++ (s ∷ [])) ≡ labels_in text slots ++ (label_in text s ∷ [])
  unfolding labels_in
  labels_more [] s = refl
  labels_more (r ∷ slots) s = ap (λ (ls : List LabelAt). label_in text r ∷ ls) (labels_more slots s)

  -- the first k + 1 slots
  pub labels_next : (slots : List (List ℕ)) (k : ℕ) → k < length slots → labels_in text (take (suc k) slots) ≡ labels_in text (take k slots) ++ (label_in text (get_or slots k []) ∷ [])
  labels_next slots k h = rw (take-suc slots k [] h) (labels_more (take k slots) (get_or slots k []))
