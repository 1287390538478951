-- Carrying a body to another sheet and string table (document 01, 'Carrying'). Assumes nothing.
use Rattle.std.specs.Prelude.{true, false, not, List, [], ◌∷◌, ◌++◌, ℕ, ltb, length}
use Rattle.limits.specs.Limits.{body_limit}
use Rattle.answers.specs.Outcome.{Outcome, produced}
use Rattle.answers.specs.declared.refusal.Refusal.TheVariants.{Malformed, BadString, TooLarge}
use Rattle.spec_sheet.specs.Sheet.{SheetRead, sheet_of, is_missing, largest}
use Rattle.spec_sheet.specs.Sheet.SheetRead.{sheet, malformed}
use Rattle.spec_strings.specs.Table.{is_too_large, fault}
use Rattle.spec_inputs.specs.Context.{Context}
use Rattle.spec_inputs.specs.Inputs.{context_of}
use Rattle.spec_body.specs.Decode.{Decoded, decode_body}
use Rattle.spec_body.specs.Decode.Decoded.{decoded, not_decoded}
use Rattle.spec_body.specs.Starts.{places_of}
use Rattle.spec_carry.specs.Cases.{Case, case, unless_case}
use Rattle.spec_carry.specs.Passes.{Carrying, or_zero, moved_from, first_pass, second_pass, new_bytes}

-- what is given: a body with its sheet and string table, and the sheet and string table to which it is carried
pub record Given : Type 0 where
  pub sheet₁ : List ℕ
  pub bytes₁ : List ℕ
  pub ends₁ : List ℕ
  pub sheet₂ : List ℕ
  pub bytes₂ : List ℕ
  pub ends₂ : List ℕ
  pub body : List ℕ

-- 17 of a string table, at its first fault
abbrev pub fault_case : List ℕ → List ℕ → Case
fault_case bytes ends = case (not (is_missing (fault bytes ends))) (BadString (or_zero (fault bytes ends)))

-- 1 of a sheet, at its line
unfoldable pub sheet_case : SheetRead → Case
sheet_case (sheet sh at) = case false (Malformed 0)
sheet_case (malformed line) = case true (Malformed line)

-- "18 of inputs (body or text, then each table's strings, then its bytes), 17 (first table, then second, each by entry)"
abbrev pub table_cases : List ℕ → List ℕ → List ℕ → List ℕ → List ℕ → List Case
table_cases body bytes₁ ends₁ bytes₂ ends₂ =
    case (ltb body_limit (length body)) TooLarge
    ∷ case (is_too_large bytes₁ ends₁) TooLarge
    ∷ case (is_too_large bytes₂ ends₂) TooLarge
    ∷ fault_case bytes₁ ends₁
    ∷ fault_case bytes₂ ends₂
    ∷ []

-- then "1 (first sheet, then second)"
unfoldable pub input_cases : Given → List Case
input_cases g =
    table_cases g.body g.bytes₁ g.ends₁ g.bytes₂ g.ends₂
    ++ (sheet_case (sheet_of g.sheet₁) ∷ sheet_case (sheet_of g.sheet₂) ∷ [])

-- the context of a sheet and a string table; of a malformed sheet one without opcodes, which is never looked at
unfoldable pub context_in : SheetRead → List ℕ → List ℕ → List ℕ → Context
context_in (sheet sh at) text bytes ends = context_of text sh.opcodes bytes ends
context_in (malformed line) text bytes ends = context_of text [] bytes ends

unfoldable pub largest_in : SheetRead → ℕ
largest_in (sheet sh at) = largest sh.opcodes
largest_in (malformed line) = 0

abbrev pub from : Given → Context
from g = context_in (sheet_of g.sheet₁) g.sheet₁ g.bytes₁ g.ends₁

abbrev pub into : Given → Context
into g = context_in (sheet_of g.sheet₂) g.sheet₂ g.bytes₂ g.ends₂

-- "Decode under the first sheet: 13, 14"
abbrev pub decoded_body : Given → Decoded
decoded_body g = decode_body (from g).types (largest_in (sheet_of g.sheet₁)) g.body

unfoldable pub decode_cases : Decoded → List Case
decode_cases (decoded rs) = []
decode_cases (not_decoded x) = case true x ∷ []

unfoldable pub records_in : Decoded → List (List ℕ)
records_in (decoded rs) = rs
records_in (not_decoded x) = []

abbrev pub records_of : Given → List (List ℕ)
records_of g = records_in (decoded_body g)

abbrev pub carrying : Context → Context → ℕ → List (List ℕ) → Carrying
carrying a b size rs = record { from = a; into = b; places = places_of rs size; moved = moved_from a b 0 rs }

abbrev pub carrying_of : Given → Carrying
carrying_of g = carrying (from g) (into g) (length g.body) (records_of g)

-- the result, where nothing refuses
unfoldable pub carried : Given → List ℕ
carried g = new_bytes (carrying_of g) 0 (records_of g)

-- the carry list behind the inputs' cases: 13, 14, the first pass over all instructions, the second, "Then 18"; 19 is said of every
-- outcome in one place
unfoldable pub carry_cases : Given → List Case
carry_cases g =
    decode_cases (decoded_body g)
    ++ (first_pass (carrying_of g) 0 (records_of g)
    ++ (second_pass (carrying_of g) 0 (records_of g) ++ (case (ltb body_limit (length (carried g))) TooLarge ∷ [])))

-- carrying: "These refusals, after the inputs' 18, 17 and 1, are the carry list"; "Carrying needs one [label entry] for each
-- instruction"
unfoldable pub carry : Given → Outcome
carry g = unless_case (input_cases g ++ carry_cases g) (produced (length (carried g)) (carried g) (length (records_of g) ∷ []))

-- the same behind the inputs' cases, under two contexts and the first one's largest opcode
abbrev pub carry_under : Context → Context → ℕ → List ℕ → Outcome
carry_under a b last body =
    let d = decode_body a.types last body in
    let rs = records_in d in
    let x = carrying a b (length body) rs in
    let bs = new_bytes x 0 rs in
    unless_case (decode_cases d ++ (first_pass x 0 rs ++ (second_pass x 0 rs ++ (case (ltb body_limit (length bs)) TooLarge ∷ [])))) (produced (length bs) bs (length rs ∷ []))
