use Rattle.job.proofs.RunLaws.{run_short, run_done}
use Rattle.job.proofs.run.run.Goals as goal

pub returns-then-text-k : goal.returns-then-text-k
returns-then-text-k c = run_short _ _ _ _ c.print-k.ensures c.if-text-k.true _ c.clear.ensures

pub returns : goal.returns
returns c = run_done _ _ _ _ c.print-k.ensures c.if-text-k.false
