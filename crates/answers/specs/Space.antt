-- The space that an operation needs, as figures (document 02 (b), "Space before work"). Assumes nothing.
use Rattle.std.specs.Prelude.{◌≡◌, List, [], ◌∷◌, ℕ, suc, ◌*◌, ◌/◌, ◌<◌, ◌≤◌, get_or, Result, Ok, Err}
use Rattle.answers.specs.Report.{Report, shortage}
use Rattle.answers.specs.Refusals.{refusal_report}
use Rattle.answers.specs.Outcome.{Outcome, Space, space_of, report, Ended}
use Rattle.answers.specs.Outcome.Outcome.{result, refused_with}
use Rattle.answers.specs.declared.space.Need.{Need}
use Rattle.answers.specs.declared.refusal.Refusal.{Refusal}
use Rattle.answers.specs.declared.space.SpaceNumbers.{SpaceNumbers}

-- what an operation's output is counted in: bytes, or records of 20 words
pub data OutputUnit : Type 0 where
  in_bytes : OutputUnit
  in_records : OutputUnit

-- "the output bytes, records and label entries needed": the figures of an outcome's own space
unfoldable pub need_in : OutputUnit → Space → Need
need_in in_bytes s = record { bytes = get_or s.outputs 0 0; records = 0; labels = get_or s.entries 0 0 }
need_in in_records s = record { bytes = 0; records = get_or s.outputs 0 0 / 20; labels = get_or s.entries 0 0 }

-- what is lent by such figures: "20 words a record"
unfoldable pub lent_for : OutputUnit → Need → Space
lent_for in_bytes n = record { outputs = n.bytes ∷ []; entries = n.labels ∷ [] }
lent_for in_records n = record { outputs = 20 * n.records ∷ []; entries = n.labels ∷ [] }

abbrev pub no_need : Need
no_need = record { bytes = 0; records = 0; labels = 0 }

-- a space function answers a refusal's number, place and operand and no figures, or 0 and the figures
pub record SpaceReport : Type 0 where
  pub number : ℕ
  pub place : ℕ
  pub operand : ℕ
  pub need : Need

abbrev pub needs : Need → SpaceReport
needs n = record { number = 0; place = 0; operand = 0; need = n }

-- with the numbers of a report that is a refusal
abbrev pub refuses : Report → SpaceReport
refuses r = record { number = r.number; place = r.place; operand = r.operand; need = no_need }

-- what a space function answers for an outcome
unfoldable pub space_report : OutputUnit → Outcome → SpaceReport
space_report u (result r) = needs (need_in u (space_of (result r)))
space_report u (refused_with x) = refuses (refusal_report x)

-- the report of each answer about space, and its numbers, each in the field of its name
unfoldable pub space_report_of : Result Need Refusal → SpaceReport
space_report_of (Ok n) = needs n
space_report_of (Err x) = refuses (refusal_report x)

abbrev pub space_numbers_of : SpaceReport → SpaceNumbers
space_numbers_of r = record {
  number = r.number;
  place = r.place;
  operand = r.operand;
  bytes = r.need.bytes;
  records = r.need.records;
  labels = r.need.labels;
}

-- the report that six numbers are
abbrev pub space_report_in : SpaceNumbers → SpaceReport
space_report_in n = record {
  number = n.number;
  place = n.place;
  operand = n.operand;
  need = record { bytes = n.bytes; records = n.records; labels = n.labels };
}

-- n was counted for the entries needed, where so many are lent: exactly where it is more than are lent, and else no less
abbrev pub EntriesFor : ℕ → ℕ → ℕ → Type 0
EntriesFor lent needed n = (needed ≤ n) × (lent < n → n ≡ needed)

-- figures that were found for those needed, where so many label entries are lent
pub record NeedFound (lent : ℕ) (need found : Need) : Type 0 where
  pub bytes_are : found.bytes ≡ need.bytes
  pub records_are : found.records ≡ need.records
  pub labels_are : EntriesFor lent need.labels found.labels

-- an operation with one output ended, and where it answered 19 it told what it found to be needed
pub record Told (u : OutputUnit) (x : Outcome) (out entries after : List ℕ) (r : Report) (n : Need) : Type 0 where
  pub ended : Ended x out entries after r
  pub tells : r ≡ shortage → NeedFound (get_or entries 0 0) (need_in u (space_of x)) n

-- figures of which one that is above 0 is lowered by one
pub data Lowered (n : Need) : Need → Type 0 where
  fewer_bytes : (k : ℕ) → n.bytes ≡ suc k → Lowered n (record { bytes = k; records = n.records; labels = n.labels })
  fewer_records : (k : ℕ) → n.records ≡ suc k → Lowered n (record { bytes = n.bytes; records = k; labels = n.labels })
  fewer_labels : (k : ℕ) → n.labels ≡ suc k → Lowered n (record { bytes = n.bytes; records = n.records; labels = k })

-- number, place and operand of both are the same
abbrev pub SameRefusal : SpaceReport → Report → Type 0
SameRefusal a r = (a.number ≡ r.number) × (a.place ≡ r.place) × (a.operand ≡ r.operand)

-- "The figure must be exact: with it no 19 occurs, and with any one figure above 0 lowered by one 19 occurs. Any other refusal comes
-- back the same."
pub record Exact (u : OutputUnit) (x : Outcome) : Type 0 where
  pub enough : (report x (lent_for u (space_report u x).need)).number ≡ 19 → ⊥
  pub none_less : (n : Need) → Lowered (space_report u x).need n → report x (lent_for u n) ≡ shortage
  pub same : (room : Space) → ((report x room).number ≡ 19 → ⊥) → SameRefusal (space_report u x) (report x room)
