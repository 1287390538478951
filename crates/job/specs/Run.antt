-- What the program's function answers. Assumes nothing.
use Rattle.std.specs.Prelude.{ℕ, Option, Some, None}
use Rattle.answers.specs.Report.{Report, shortage, success}

-- document 01's number and length of each answer: what is printed, or 19 where the text has no room for it
unfoldable pub run_report : Option ℕ → Report
run_report (Some n) = success n
run_report None = shortage
