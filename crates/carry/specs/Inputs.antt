-- The inputs of carrying, and what reading them answers. Assumes nothing.
use Rattle.std.specs.Prelude.{◌≡◌, List, [], ◌∷◌, ℕ, ◌≤◌, Result, Ok, Err}
use Rattle.answers.specs.Outcome.{Outcome}
use Rattle.answers.specs.Outcome.Outcome.{refused_with}
use Rattle.answers.specs.declared.refusal.Refusal.{Refusal}
use Rattle.spec_sheet.specs.Sheet.{sheet_of}
use Rattle.sheet.specs.Sheets.{types_in, infos_in}
use Rattle.spec_carry.specs.Cases.{Case, unless_case}
use Rattle.spec_carry.specs.Carry.{sheet_case, largest_in}

-- what follows good tables, or their refusal
unfoldable pub on_inputs : Result (Unit {0}) Refusal → Outcome → Outcome
on_inputs (Ok u) rest = rest
on_inputs (Err x) rest = refused_with x

-- then 1 of both sheets
abbrev pub sheet_cases : List ℕ → List ℕ → List Case
sheet_cases sheet₁ sheet₂ = sheet_case (sheet_of sheet₁) ∷ sheet_case (sheet_of sheet₂) ∷ []

-- both sheets were read into their tables, and the first one's largest opcode was answered; or one is refused
pub data SheetsRead (sheet₁ sheet₂ : List ℕ) (types₁ ops₁ types₂ ops₂ : List (List ℕ)) (r : Result ℕ Refusal) : Type 0 where
  both_read : types₁ ≡ types_in (sheet_of sheet₁) → ops₁ ≡ infos_in (sheet_of sheet₁) → types₂ ≡ types_in (sheet_of sheet₂) → ops₂ ≡ infos_in (sheet_of sheet₂)
      → largest_in (sheet_of sheet₁) ≤ 255 → ((rest : Outcome) → unless_case (sheet_cases sheet₁ sheet₂) rest ≡ rest)
      → r ≡ Ok (largest_in (sheet_of sheet₁)) → SheetsRead sheet₁ sheet₂ types₁ ops₁ types₂ ops₂ r
  one_refused : (x : Refusal) → ((rest : Outcome) → unless_case (sheet_cases sheet₁ sheet₂) rest ≡ refused_with x)
      → r ≡ Err x → SheetsRead sheet₁ sheet₂ types₁ ops₁ types₂ ops₂ r
