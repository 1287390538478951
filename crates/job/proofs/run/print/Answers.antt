use mathlib.Core.Path.{refl, sym, ◌∙◌}
use Rattle.std.proofs.Common.{None}
use Rattle.job.proofs.AskedLaws.{read_as}
use Rattle.job.proofs.PrintLaws.{line_prints}
use Rattle.job.proofs.RunLaws.{large_prints, job_prints}
use Rattle.job.proofs.run.print.Goals as goal

pub returns-then-job-gt-JOB_LIMIT : goal.returns-then-job-gt-JOB_LIMIT
returns-then-job-gt-JOB_LIMIT c = large_prints _ _ _ _ c.if-job-gt-JOB_LIMIT.true c.refused.ensures

pub print_job-requires : goal.print_job-requires
print_job-requires c = c.if-job-gt-JOB_LIMIT.false

pub returns-in-Some : goal.returns-in-Some
unfolding read_as
returns-in-Some c = job_prints _ _ _ _ c.if-job-gt-JOB_LIMIT.false _ (sym c.in-Some.is ∙ c.which_job.ensures) c.print_job.ensures

pub returns-in-None : goal.returns-in-None
unfolding read_as
returns-in-None c = job_prints _ _ _ _ c.if-job-gt-JOB_LIMIT.false None (sym c.in-None.is ∙ c.which_job.ensures) (line_prints c.args.job.now refl c.refused-in-None.ensures)
