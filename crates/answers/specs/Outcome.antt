-- An operation's outcome, what it needs, and how it is reported (document 01, 'Numbers the desk returns'). Assumes nothing.
use Rattle.std.specs.Prelude.{◌≡◌, Bool, false, List, [], ◌∷◌, ℕ, ltb, drop, get_or}
use Rattle.std.proofs.Math.ListN as list
use Rattle.lists.specs.Choice.{pick, either}
use Rattle.answers.specs.Report.{Report, shortage, success, zeros, written}
use Rattle.answers.specs.Refusals.{refusal_report}
use Rattle.answers.specs.declared.refusal.Refusal.{Refusal}
use Rattle.answers.specs.declared.refusal.Refusal.TheVariants.{TooLarge}

-- a result: how much it counts, what each output gets, and how many entries of each work buffer it needs
pub record Result : Type 0 where
  pub length : ℕ
  pub outputs : List (List ℕ)
  pub entries : List ℕ

-- what an operation evaluates to, whatever is lent
pub data Outcome : Type 0 where
  result : Result → Outcome
  refused_with : Refusal → Outcome

-- a result with one output
abbrev pub produced : ℕ → List ℕ → List ℕ → Outcome
produced n words entries = result (record { length = n; outputs = words ∷ []; entries = entries })

-- a text or body as a result, or 18 past its limit
unfoldable pub measured : ℕ → List ℕ → List ℕ → Outcome
measured limit entries t = pick (ltb limit (list.length t)) (refused_with TooLarge) (produced (list.length t) t entries)

unfoldable pub sizes : List (List ℕ) → List ℕ
sizes [] = []
sizes (s ∷ ss) = list.length s ∷ sizes ss

-- space that is needed or lent: of each output, and the entries of each work buffer
pub record Space : Type 0 where
  pub outputs : List ℕ
  pub entries : List ℕ

-- "Space needed, exactly: the result's length; 20 words a record; and label entries"
abbrev pub needed : Result → Space
needed r = record { outputs = sizes r.outputs; entries = r.entries }

-- what an outcome needs; a refusal needs nothing
unfoldable pub space_of : Outcome → Space
space_of (result r) = needed r
space_of (refused_with x) = record { outputs = []; entries = [] }

-- what is lent, by the outputs
abbrev pub lent : List (List ℕ) → List ℕ → Space
lent outs entries = record { outputs = sizes outs; entries = entries }

-- one figure is above the one that is lent
unfoldable pub exceeds : List ℕ → List ℕ → Bool
exceeds [] room = false
exceeds (n ∷ ns) room = either (ltb (get_or room 0 0) n) (exceeds ns (drop 1 room))

-- "19 lent output or work space shorter than needed, and nothing else refuses"
unfoldable pub is_short : Space → Space → Bool
is_short need room = either (exceeds need.outputs room.outputs) (exceeds need.entries room.entries)

unfoldable pub report : Outcome → Space → Report
report (result r) room = pick (is_short (needed r) room) shortage (success r.length)
report (refused_with x) room = refusal_report x

unfoldable pub zeros_each : List (List ℕ) → List (List ℕ)
zeros_each [] = []
zeros_each (out ∷ outs) = zeros out ∷ zeros_each outs

unfoldable pub written_each : List (List ℕ) → List (List ℕ) → List (List ℕ)
written_each results [] = []
written_each results (out ∷ outs) = written (get_or results 0 []) out ∷ written_each (drop 1 results) outs

-- the lent outputs afterwards; work buffers are `cleared` in every case
unfoldable pub outputs_after : Outcome → List (List ℕ) → List ℕ → List (List ℕ)
outputs_after (result r) outs entries = pick (is_short (needed r) (lent outs entries)) (zeros_each outs) (written_each r.outputs outs)
outputs_after (refused_with x) outs entries = zeros_each outs

-- an operation with one output ended: it answered `r` for the outcome, and left the output, which was `out`, as `after`
pub record Ended (x : Outcome) (out entries after : List ℕ) (r : Report) : Type 0 where
  pub answer_is : r ≡ report x (lent (out ∷ []) entries)
  pub output_is : after ∷ [] ≡ outputs_after x (out ∷ []) entries
