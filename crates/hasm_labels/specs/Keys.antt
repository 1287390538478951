-- The long labels as keys of an index. Assumes nothing.
use Rattle.std.specs.Prelude.{◌≡◌, ℕ, ◌+◌, ◌*◌, ◌/◌, ◌%◌, ◌≤◌, ◌<◌, Bool, false, not, List, [], eqb, length, take, drop, get_or, set}
use Rattle.lists.specs.Choice.{pick}
use Rattle.lists.specs.Scan.{run, part}
use Rattle.lists.specs.Found.{Found}
use Rattle.hash_index.specs.Hash.{bucket_of}
use Rattle.hash_index.specs.Backward.{next_unit, ChainedBack}
use Rattle.spec_hasm.specs.Assemble.{LabelAt, label_offset}
use Rattle.hasm_labels.specs.Slots.{label_in}
use Rattle.hasm_labels.specs.declared.label_entry.LabelPlace.{LabelPlace}

-- every byte but a colon
abbrev pub not_colon : ℕ → Bool
not_colon b = not (eqb b 58)

-- a label's word has the start of its text below this, and its offset, which is below the second, as a multiple of it
abbrev pub start_limit : ℕ
start_limit = 1048576

abbrev pub offset_limit : ℕ
offset_limit = 134217728

-- the label of a word: its text ends at the next colon
abbrev pub label_of_word : List ℕ → ℕ → LabelAt
label_of_word text word = record { text = part text (word % start_limit) (run not_colon (drop (word % start_limit) text)); offset = word / start_limit % offset_limit }

-- a label by its place
abbrev pub label_of : List ℕ → LabelPlace → LabelAt
label_of text l = record { text = part text l.start l.size; offset = l.offset }

-- label k, which has a word in an index: it is held by the word, where the index owns its labels, or else by a slot
abbrev pub label_at : Bool → List ℕ → List (List ℕ) → ℕ → ℕ → LabelAt
label_at owned text slots k word = pick owned (label_of_word text word) (label_in text (get_or slots k []))

-- what stands behind the last label of a list
abbrev pub no_label : LabelAt
no_label = record { text = []; offset = 0 }

-- the bucket of the k-th of labels
unfoldable pub bucket_at : ℕ → List LabelAt → ℕ → ℕ
bucket_at m labels k = bucket_of m (get_or labels k no_label).text

-- space for an index of m buckets
pub record Buckets (m : ℕ) (index : List ℕ) : Type 0 where
  pub some : 0 < m
  pub few : m < 4294967296
  pub room : m ≤ length index

-- an index of labels in m buckets
pub record LabelsIndexed (owned : Bool) (text : List ℕ) (slots : List (List ℕ)) (index : List ℕ) (m : ℕ) (labels : List LabelAt) : Type 0 where
  pub some : 0 < m
  pub few : m < 4294967296
  pub lent : owned ≡ false → length labels ≤ length slots
  pub held : (k : ℕ) → k < length labels → label_at owned text slots k (get_or index (m + k) 0) ≡ get_or labels k no_label
  pub chained : ChainedBack (bucket_at m labels) m (length labels) index

-- an index of some labels
pub record AnyIndexed (owned : Bool) (text : List ℕ) (slots : List (List ℕ)) (index : List ℕ) (m : ℕ) : Type 0 where
  pub labels : List LabelAt
  pub indexed : LabelsIndexed owned text slots index m labels

-- key k was put into the index, with a number of its own
pub record KeyPut (m h k own : ℕ) (index index' : List ℕ) : Type 0 where
  pub bucket : h < m
  pub room : m + k < length index
  pub small : own < next_unit
  pub put : index' ≡ set (set index (m + k) (own + get_or index h 0 * next_unit)) h (k + 1)

-- what a search through the first k labels answers
abbrev pub offset_below : List LabelAt → List ℕ → ℕ → Found
offset_below labels t k = label_offset (take k labels) t
