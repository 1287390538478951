-- What reading an operation's inputs answers and leaves. Assumes nothing.
use Rattle.std.specs.Prelude.{◌≡◌, List, ℕ, ◌≤◌, eqb, Result, Ok, Err}
use Rattle.lists.specs.Choice.{pick}
use Rattle.answers.specs.declared.refusal.Refusal.{Refusal}
use Rattle.answers.specs.Refusals.{refusal_report}
use Rattle.spec_sheet.specs.Line.{Op}
use Rattle.spec_sheet.specs.Sheet.{sheet_of, no_type_rows, no_info_rows, type_rows, info_rows, largest}
use Rattle.answers.specs.Outcome.{Outcome}
use Rattle.answers.specs.Outcome.Outcome.{refused_with}
use Rattle.spec_inputs.specs.Context.{Context}
use Rattle.spec_inputs.specs.Inputs.{under_context, under_inputs, context_of}

-- rows of a table after a refusal: those of no sheet after 1, and as they were after 18 or 17
unfoldable pub rows_left : Refusal → List (List ℕ) → List (List ℕ) → List (List ℕ)
rows_left x before none = pick (eqb (refusal_report x).number 1) none before

-- an outcome under inputs, and the two tables, which were `types₀` and `ops₀`: the inputs were read, so that it goes on under
-- the sheet's tables and the largest opcode; or they are refused, whatever follows
pub data Under (text bytes ends : List ℕ) (outcome : (Context → ℕ → Outcome) → Outcome) (types₀ ops₀ types ops : List (List ℕ)) (r : Result ℕ Refusal) : Type 0 where
  ready : (os : List Op) → types ≡ type_rows os → ops ≡ info_rows os → largest os ≤ 255
      → ((then : Context → ℕ → Outcome) → outcome then ≡ then (context_of text os bytes ends) (largest os))
      → r ≡ Ok (largest os) → Under text bytes ends outcome types₀ ops₀ types ops r
  refused : (x : Refusal) → types ≡ rows_left x types₀ no_type_rows → ops ≡ rows_left x ops₀ no_info_rows
      → ((then : Context → ℕ → Outcome) → outcome then ≡ refused_with x)
      → r ≡ Err x → Under text bytes ends outcome types₀ ops₀ types ops r

-- a sheet alone, for any string table
abbrev pub SheetGiven : List ℕ → List (List ℕ) → List (List ℕ) → List (List ℕ) → List (List ℕ) → Result ℕ Refusal → Type 0
SheetGiven text types₀ ops₀ types ops r = (bytes ends : List ℕ) → Under text bytes ends (under_context (sheet_of text) text bytes ends) types₀ ops₀ types ops r

-- a string table and a sheet
abbrev pub Given : List ℕ → List ℕ → List ℕ → List (List ℕ) → List (List ℕ) → List (List ℕ) → List (List ℕ) → Result ℕ Refusal → Type 0
Given text bytes ends types₀ ops₀ types ops r = Under text bytes ends (under_inputs text bytes ends) types₀ ops₀ types ops r
