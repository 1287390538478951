-- What an operation answers, as a report. Assumes nothing.
use Rattle.std.specs.Prelude.{ℕ, Result, Ok, Err}
use Rattle.answers.specs.Report.{Report, shortage, success}
use Rattle.answers.specs.Refusals.{refusal_report}
use Rattle.answers.specs.declared.failure.Failure.{Failure}
use Rattle.answers.specs.declared.failure.Failure.TheVariants.{Refused, Short}

-- the report of each answer
abbrev pub answer_report : Result ℕ Failure → Report
answer_report (Ok n) = success n
answer_report (Err (Refused x)) = refusal_report x
answer_report (Err Short) = shortage
