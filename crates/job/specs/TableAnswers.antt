-- What reading a string table answers and leaves in the lent arrays. Assumes nothing.
use Rattle.std.specs.Prelude.{◌≡◌, Result, Ok, Err, List, ℕ, ◌≤◌, length, take}
use Rattle.spec_job.specs.Table as definition
use Rattle.spec_job.specs.Table.TableRead.{table, fault_after}
use Rattle.job.specs.declared.table.TableRead.{TableRead}

-- a lent array opens with a list, where that fits
abbrev pub Opens : List ℕ → List ℕ → Type 0
Opens lent s = length s ≤ length lent → take (length s) lent ≡ s

-- a table that evaluates to x was read into `bytes` and `ends`, and r was answered: the place behind it, its strings' and its
-- bytes' number
pub data Tabled (x : definition.TableRead) (bytes ends : List ℕ) (r : Result TableRead ℕ) : Type 0 where
  whole : (bs es : List ℕ) (b : ℕ) → x ≡ table bs es b → r ≡ Ok (record { end = b; count = length es; size = length bs }) → Opens bytes bs → Opens ends es → Tabled x bytes ends r
  faulty : (k : ℕ) → x ≡ fault_after k → r ≡ Err k → Tabled x bytes ends r
