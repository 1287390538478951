-- What one turn of the loop that reads a text back adds and carries on. Assumes nothing.
use Rattle.std.specs.Prelude.{ℕ, Bool, true, false, List, [], ◌∷◌, eqb}
use Rattle.lists.specs.Choice.{pick}
use Rattle.spec_strings.specs.Escape.{meant}

-- what a byte adds to a text that is read back
abbrev pub read_text : Bool → ℕ → List ℕ
read_text true b = meant b ∷ []
read_text false b = pick (eqb b 92) [] (b ∷ [])

-- whether the next byte stands behind a backslash
abbrev pub slash_after : Bool → ℕ → Bool
slash_after true b = false
slash_after false b = eqb b 92
