-- An outcome as a trial compares it. Assumes nothing.
use mathlib.Core.List.{List, [], ◌∷◌}
use Prim.Native.Nat.{ℕ}
use lib.Dec.{eqb}
use lib.ListN.{get_or}
use Rattle.lists.specs.Choice.{pick}
use Rattle.answers.specs.Report.{Report}
use Rattle.answers.specs.Refusals.{fault_number, refusal_report}
use Rattle.answers.specs.Outcome.{Outcome, Space, sizes, exceeds, is_short, report}
use Rattle.answers.specs.Outcome.Outcome.{result, refused_with}

-- so many bytes or words and label entries lent
abbrev pub room : ℕ → ℕ → Space
room words entries = record { outputs = words ∷ []; entries = entries ∷ [] }

-- the first output of a result
unfoldable pub output_of : Outcome → List ℕ
output_of (result r) = get_or r.outputs 0 []
output_of (refused_with x) = []

unfoldable pub reported : Report → List ℕ → List ℕ
reported r words = pick (eqb r.number 0) (0 ∷ r.length ∷ words) (1 ∷ r.number ∷ r.place ∷ r.operand ∷ [])

-- a result's length and its output behind a 0, or number, place and operand of a refusal behind a 1
unfoldable pub shown : Outcome → Space → List ℕ
unfolding report refusal_report fault_number is_short exceeds sizes output_of reported
shown x lent = reported (report x lent) (output_of x)
