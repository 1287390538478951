-- The name of an instruction, by its place in a sheet. Assumes nothing.
use Rattle.std.specs.Prelude.{List, ℕ, eqb}
use Rattle.lists.specs.Choice.{pick}
use Rattle.lists.specs.Scan.{part}
use Rattle.lists.specs.Text.{text}

-- the name that starts at a place of a sheet's text; a length of 0 is a gap's
abbrev pub name_shown : List ℕ → ℕ → ℕ → List ℕ
name_shown sheet start size = pick (eqb size 0) (text "<invalid>") (part sheet start size)
