use Rattle.answers.proofs.NumberLaws.{same_report}
use Rattle.job.proofs.printed.refused.Goals as goal

pub returns : goal.returns
returns c = rw (same_report c.from.ensures) at c.put_refused.ensures
