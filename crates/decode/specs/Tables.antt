-- Tables that the decoder makes once for a body. Assumes nothing.
use Rattle.std.specs.Prelude.{ℕ, ◌+◌, ◌≤◌, ◌<◌, ◌≡◌, List, [], ◌∷◌, length, get_or}
use Rattle.spec_sheet.specs.Types.{width_of, kind_of}
use Rattle.spec_sheet.specs.Row.{count_of}

-- a type code's width and kind
abbrev pub code_row : ℕ → List ℕ
code_row c = width_of c ∷ kind_of c ∷ []

-- those of each code
abbrev pub CodeRows : List (List ℕ) → Type 0
CodeRows rows = (c : ℕ) → c < 256 → get_or rows c [] ≡ code_row c

-- by operand, the first at p, where it starts and its kind; then where the last one ends, and the count n
unfoldable pub plan_from : ℕ → ℕ → List ℕ → List ℕ
plan_from n p [] = p ∷ n ∷ []
plan_from n p (c ∷ cs) = p ∷ kind_of c ∷ plan_from n (p + width_of c) cs

-- an opcode's plan, by its row of type codes: its operands, the instruction's length, and the operand count
abbrev pub plan_row : List ℕ → List ℕ
plan_row row = plan_from (count_of row) 1 row

-- the plan of a row of eight codes
abbrev pub PlanOf : List ℕ → List ℕ → Type 0
PlanOf row plan = (plan ≡ plan_row row) × (length row ≡ 8)

-- the plan of each opcode up to the largest
abbrev pub PlanRows : List (List ℕ) → ℕ → List (List ℕ) → Type 0
PlanRows types last rows = (o : ℕ) → o < 256 → o ≤ last → PlanOf (get_or types o []) (get_or rows o [])
