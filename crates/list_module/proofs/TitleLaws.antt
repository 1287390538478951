-- A function's banner. Assumes nothing.
use mathlib.Core.Path.{◌≡◌, refl, sym}
use mathlib.Core.Bool.{Bool, true, false}
use mathlib.Core.List.{List, []}
use Prim.Native.Nat.{ℕ, ◌-◌}
use lib.Dec.{ltb}
use lib.ListN.{length}
use Rattle.lists.specs.Choice.{pick}
use Rattle.lists.specs.Scan.{part}
use Rattle.spec_strings.specs.Table.{text_of}
use Rattle.strings.specs.Answers.{entry_at, entry_of}
use Rattle.strings.specs.declared.table.Entry.{Entry}
use Rattle.std.specs.Prelude.{Option, Some, None}
use Rattle.list_module.specs.Titles.{name_by_id}

-- the name of an id that has a text, and of one that has none
module _ (bytes ends : List ℕ) (id : ℕ) where
  pub name_found : (x : Entry) → entry_of ends id ≡ Some x → part bytes x.start (x.end - x.start) ≡ name_by_id bytes ends id
  unfolding entry_of name_by_id
  name_found x = go (ltb id (length ends))
    where
      go : (b : Bool) → pick {A = Option Entry} b (Some (entry_at ends id)) None ≡ Some x → part bytes x.start (x.end - x.start) ≡ pick b (text_of bytes ends id) []
      go true e = let p : entry_at ends id ≡ x = cc e in rw (sym p)
      go false e = cc e

  pub name_missing : entry_of ends id ≡ None → [] ≡ name_by_id bytes ends id
  unfolding entry_of name_by_id
  name_missing = go (ltb id (length ends))
    where
      go : (b : Bool) → pick {A = Option Entry} b (Some (entry_at ends id)) None ≡ None → [] ≡ pick b (text_of bytes ends id) []
      go true e = cc e
      go false e = refl
