-- What a look at a string table answers. Assumes nothing.
use Rattle.std.specs.Prelude.{List, ℕ, Result, Ok, Err}
use Rattle.lists.specs.Choice.{pick}
use Rattle.lists.specs.Found.{Found}
use Rattle.lists.specs.Found.Found.{found, missing}
use Rattle.spec_strings.specs.Table.{is_too_large, fault}
use Rattle.answers.specs.declared.refusal.Refusal.{Refusal}
use Rattle.answers.specs.declared.refusal.Refusal.TheVariants.{BadString, TooLarge}

-- 17 and the entry
unfoldable pub unless_faulty : Found → Result (Unit {0}) Refusal
unless_faulty (found id) = Err (BadString id)
unless_faulty missing = Ok tt

-- 18 of its strings and bytes, then 17 by entry
unfoldable pub table_check : List ℕ → List ℕ → Result (Unit {0}) Refusal
table_check bytes ends = pick (is_too_large bytes ends) (Err TooLarge) (unless_faulty (fault bytes ends))
