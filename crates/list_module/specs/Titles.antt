-- The parts of a function's banner. Assumes nothing.
use Rattle.std.specs.Prelude.{List, [], ◌++◌, ℕ, eqb, ltb, length}
use Rattle.lists.specs.Choice.{pick}
use Rattle.lists.specs.Text.{text}
use Rattle.spec_strings.specs.Escape.{quoted}
use Rattle.spec_strings.specs.Table.{text_of}

-- what a banner says of a name
unfoldable pub name_text : List ℕ → List ℕ
name_text name = pick (eqb (length name) 0) [] (text " (" ++ quoted name ++ text ")")

-- function_name by the string table alone: the text of an id, or none
unfoldable pub name_by_id : List ℕ → List ℕ → ℕ → List ℕ
name_by_id bytes ends id = pick (ltb id (length ends)) (text_of bytes ends id) []
