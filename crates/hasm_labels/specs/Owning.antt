-- The labels that the index holds itself. Assumes nothing.
use Rattle.std.specs.Prelude.{◌≡◌, ℕ, ◌+◌, ◌*◌, ◌<◌, Bool, true, List, drop}
use Rattle.lists.specs.Scan.{run}
use Rattle.hash_index.specs.Hash.{bucket_of}
use Rattle.spec_inputs.specs.Context.{Context}
use Rattle.hasm_labels.specs.LongLabels.{long_of}
use Rattle.hasm_labels.specs.Holding.{part_in, waiting_label}
use Rattle.hasm_labels.specs.Going.{Going}
use Rattle.hasm_labels.specs.Keys.{not_colon, start_limit, offset_limit, KeyPut, LabelsIndexed}
use Rattle.hasm_labels.specs.declared.hold_label.Progress.{Progress}

-- the label that waits was put into the index: its word holds it
pub record OwnPut (text : List ℕ) (m : ℕ) (p : Progress) (index index' : List ℕ) : Type 0 where
  pub start : (part_in p.waiting).start < start_limit
  pub offset : p.offset < offset_limit
  pub size : (part_in p.waiting).size ≡ run not_colon (drop (part_in p.waiting).start text)
  pub put : KeyPut m (bucket_of m (waiting_label text p).text) p.kept ((part_in p.waiting).start + p.offset * start_limit) index index'

-- behind a line the long labels are so many: the index is as it was, or the label that waited was put into it
pub data OwnMore (text : List ℕ) (m : ℕ) (p : Progress) (long : ℕ) (index index' : List ℕ) : Type 0 where
  none : long ≡ p.kept → index' ≡ index → OwnMore text m p long index index'
  one : (long ≡ p.kept → ⊥) → OwnPut text m p index index' → OwnMore text m p long index index'

-- the pass stands in front of the line at `at`, and the index holds the long labels taken so far, where it is whole
pub record Owning (e : Context) (text t : List ℕ) (slots₀ : List (List ℕ)) (at n : ℕ) (p : Progress) (slots : List (List ℕ)) (m : ℕ) (whole : Bool) (index : List ℕ) : Type 0 where
  pub going : Going e text t slots₀ at n p slots
  pub indexed : whole ≡ true → (any : List (List ℕ)) → LabelsIndexed true text any index m (long_of going.taken)
