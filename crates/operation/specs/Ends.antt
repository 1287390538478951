-- How an operation ends that wrote a result. Assumes nothing.
use Rattle.std.specs.Prelude.{List, ℕ, ltb, Result, Ok, Err}
use Rattle.lists.specs.Choice.{pick}
use Rattle.answers.specs.Report.{zeros}
use Rattle.answers.specs.declared.failure.Failure.{Failure}
use Rattle.answers.specs.declared.failure.Failure.TheVariants.{Refused, Short}
use Rattle.answers.specs.declared.refusal.Refusal.TheVariants.{TooLarge}

-- "18, 19": k bytes that need so many label entries, under a limit, where so many entries and bytes are lent
unfoldable pub measured_of : ℕ → ℕ → ℕ → ℕ → ℕ → Result ℕ Failure
measured_of k limit needed lent room = pick (ltb limit k) (Err (Refused TooLarge)) (pick (ltb lent needed) (Err Short) (pick (ltb room k) (Err Short) (Ok k)))

-- the output afterwards
abbrev pub left_by : Result ℕ Failure → List ℕ → List ℕ
left_by (Ok n) out = out
left_by (Err x) out = zeros out
