-- What the definitions answer, in the code's own types. Assumes nothing.
use Rattle.std.specs.Prelude.{ℕ, List, Option, Some, None, ltb, length}
use Rattle.lists.specs.Choice.{pick}
use Rattle.spec_strings.specs.Table.{entry_start, entry_end}
use Rattle.strings.specs.declared.table.Entry.{Entry}

-- where the text of an id starts and ends
abbrev pub entry_at : List ℕ → ℕ → Entry
entry_at ends id = record { start = entry_start ends id; end = entry_end ends id }

-- `string_at`: "the entry of that index, if below the count"
unfoldable pub entry_of : List ℕ → ℕ → Option Entry
entry_of ends id = pick (ltb id (length ends)) (Some (entry_at ends id)) None
