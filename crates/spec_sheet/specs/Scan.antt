-- What stands at a place of a sheet's or a job's text. Assumes nothing.
use Rattle.std.specs.Prelude.{ℕ, ◌+◌, Bool, not, List, [], ◌∷◌, eqb, leb, ltb, length, drop, get_or}
use Rattle.lists.specs.Choice.{pick, both, either, within}
use Rattle.lists.specs.Scan.{run, opens, part}
use Rattle.lists.specs.Text.{text}
use Rattle.spec_numbers.specs.Parse.{Parsed, unsigned_value}
use Rattle.spec_numbers.specs.Parse.Parsed.{is, bad}
use Rattle.spec_sheet.specs.Types.{type_code}

-- a reading at a place: a value and the place behind it, or that the text is not of the form
pub data Step : Type 0 where
  next : ℕ → ℕ → Step
  off : Step

-- what follows a reading, and what is answered where it failed
unfoldable pub after : {A : Type 0} → Step → A → (ℕ → ℕ → A) → A
after (next value at) failed then = then value at
after off failed then = failed

-- exactly these bytes
unfoldable pub literal_at : List ℕ → List ℕ → ℕ → Step
literal_at bytes s at = pick (opens bytes (drop at s)) (next 0 (at + length bytes)) off

abbrev pub line_end : List ℕ
line_end = 10 ∷ []

abbrev pub is_digit : ℕ → Bool
is_digit b = within 48 57 b

abbrev pub is_upper : ℕ → Bool
is_upper b = within 65 90 b

abbrev pub is_lower : ℕ → Bool
is_lower b = within 97 122 b

-- "letters, digits or underscores"
unfoldable pub is_name_byte : ℕ → Bool
is_name_byte b = either (is_upper b) (either (is_lower b) (either (is_digit b) (eqb b 95)))

-- a decimal number up to `most`: "Numbers have no leading zeros"
unfoldable pub number_read : Parsed → ℕ → Step
number_read (is n) at = next n at
number_read bad at = off

unfoldable pub number_at : ℕ → List ℕ → ℕ → Step
number_at most s at =
    let k = run is_digit (drop at s) in
    pick (both (ltb 1 k) (eqb (get_or s at 0) 48)) off (number_read (unsigned_value 10 most (part s at k)) (at + k))

-- a number up to `most` between a key and what has to stand behind it
unfoldable pub keyed_at : List ℕ → ℕ → List ℕ → List ℕ → ℕ → Step
keyed_at key most tail s at =
    after (literal_at key s at) off λ _ a.
    after (number_at most s a) off λ value b.
    after (literal_at tail s b) off λ _ c.
    next value c

-- "1 to 48 letters, digits or underscores, and open with an upper-case letter, but not with `Function`": k of them at a place
unfoldable pub may_be_name : List ℕ → ℕ → ℕ → Bool
may_be_name s at k = both (leb k 48) (both (not (opens (text "Function") (drop at s))) (is_upper (get_or s at 0)))

-- a name: its length
unfoldable pub name_at : List ℕ → ℕ → Step
name_at s at =
    let k = run is_name_byte (drop at s) in
    pick (may_be_name s at k) (next k (at + k)) off

-- the name of an operand type: its code
unfoldable pub type_at : List ℕ → ℕ → Step
type_at s at =
    let k = run is_name_byte (drop at s) in
    pick (eqb (type_code (part s at k)) 0) off (next (type_code (part s at k)) (at + k))
