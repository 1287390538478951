-- What an instruction means (document 01, 'Carrying'). Says nothing of carrying. Assumes nothing.
use Rattle.std.specs.Prelude.{Bool, true, false, List, [], ◌∷◌, ℕ, suc, ◌+◌, ◌-◌, ◌*◌, ◌^◌, eqb, ltb, get_or, drop}
use Rattle.lists.specs.Choice.{pick, both}
use Rattle.lists.specs.Found.{Found}
use Rattle.lists.specs.Found.Found.{found, missing}
use Rattle.spec_sheet.specs.Types.{width_of, family_of, string_family, addr_family}
use Rattle.spec_inputs.specs.Context.{Context, name_of, has_text, text_at}
use Rattle.spec_body.specs.Record.{offset_of, opcode_of, pairs_of}
use Rattle.spec_body.specs.Starts.{places_of}

-- "offset plus distance" is a place, in integers: the distance is the bits, less 2 ^ (8 w) where the sign bit is set
unfoldable pub reaches : ℕ → ℕ → ℕ → ℕ → Bool
reaches w at bits place = eqb (at + bits) (place + pick (ltb bits (2 ^ (8 * w - 1))) 0 (2 ^ (8 * w)))

-- the first place, counted from k, that passes a test
unfoldable pub first_place : (ℕ → Bool) → ℕ → List ℕ → Found
first_place p k [] = missing
first_place p k (x ∷ xs) =
    let rest = first_place p (suc k) xs in
    pick (p x) (found k) rest

-- "an Addr's target: the index of the instruction starting at offset plus distance, or the instruction count where that is the
-- body's length": the places are the starts of the instructions, and then the body's length
abbrev pub target_in : List ℕ → ℕ → ℕ → ℕ → Found
target_in places w at bits = first_place (reaches w at bits) 0 places

-- what an operand stands for: a number (a register's, a number, the bits of an Imm32 or of a double), a text, the index of a
-- target; or nothing, where an id has no text or an Addr leads to no place
pub data Value : Type 0 where
  number : ℕ → Value
  text : List ℕ → Value
  target : ℕ → Value
  nothing : Value

unfoldable pub target_value : Found → Value
target_value (found k) = target k
target_value missing = nothing

-- "the family and the value, a double's bits, a string's text, or an Addr's target"
pub record Operand : Type 0 where
  pub family : ℕ
  pub value : Value

-- the value of an operand of the instruction at `at`, by its type code
unfoldable pub value_of : Context → List ℕ → ℕ → ℕ → ℕ → Value
value_of e places at code bits =
    pick (eqb (family_of code) string_family) (pick (has_text e bits) (text (text_at e bits)) nothing)
    (pick (eqb (family_of code) addr_family) (target_value (target_in places (width_of code) at bits)) (number bits))

-- "by operand in order"; code 0 is no operand
unfoldable pub operands_of : Context → List ℕ → ℕ → List ℕ → List ℕ → List Operand
operands_of e places at [] pairs = []
operands_of e places at (code ∷ codes) pairs =
    let rest = operands_of e places at codes (drop 2 pairs) in
    pick (eqb code 0) [] (record { family = family_of code; value = value_of e places at code (get_or pairs 1 0) } ∷ rest)

-- "An instruction's *meaning*, under a sheet and table: its name and, by operand in order, .."
pub record Meaning : Type 0 where
  pub name : List ℕ
  pub operands : List Operand

abbrev pub meaning_of : Context → List ℕ → List ℕ → Meaning
meaning_of e places r =
    record {
      name = name_of e (opcode_of r);
      operands = operands_of e places (offset_of r) (get_or e.types (opcode_of r) []) (pairs_of r);
    }

unfoldable pub meanings_from : Context → List ℕ → List (List ℕ) → List Meaning
meanings_from e places [] = []
meanings_from e places (r ∷ rs) = meaning_of e places r ∷ meanings_from e places rs

-- instruction by instruction, of a body of this length with these records
abbrev pub meanings : Context → ℕ → List (List ℕ) → List Meaning
meanings e size rs = meanings_from e (places_of rs size) rs

-- every operand stands for something
unfoldable pub is_some : Value → Bool
is_some (number n) = true
is_some (text t) = true
is_some (target k) = true
is_some nothing = false

unfoldable pub all_some : List Operand → Bool
all_some [] = true
all_some (o ∷ os) = both (is_some o.value) (all_some os)

unfoldable pub all_mean : List Meaning → Bool
all_mean [] = true
all_mean (m ∷ ms) = both (all_some m.operands) (all_mean ms)
