-- What one turn of the loop that escapes a text adds and carries on. Assumes nothing.
use Rattle.std.specs.Prelude.{ℕ, Bool, not, Option, Some, None, List, [], eqb}
use Rattle.lists.specs.Choice.{pick, both, within}
use Rattle.spec_strings.specs.Escape.{escape, escaped}

-- a short escape, or else a longer text
abbrev pub short_or : Option ℕ → List ℕ → List ℕ
short_or (Some letter) long = escaped letter
short_or None long = long

-- the escape of a character that is whole, and nothing of one that is not
abbrev pub whole_text : ℕ → ℕ → List ℕ
whole_text st c = pick (eqb st 0) (escape c) []

-- the bits that are carried on: none behind a whole character
abbrev pub carried_bits : ℕ → ℕ → ℕ
carried_bits st bits = pick (eqb st 0) 0 bits

-- a byte that is a whole character and stands for itself: "32 to 126 as is", but for the quote and the backslash
unfoldable pub bare : ℕ → Bool
bare b = both (not (eqb b 34)) (both (not (eqb b 92)) (within 32 126 b))
