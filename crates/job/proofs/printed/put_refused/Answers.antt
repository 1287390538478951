use Rattle.spec_job.specs.Printed.{refused_text}
use Rattle.lists.specs.Text.{text}
use Rattle.lists.proofs.Writes.{◌then◌}
use Rattle.job.proofs.printed.put_refused.Goals as goal

pub returns : goal.returns
unfolding refused_text text
returns c = c.put_bytes-a.ensures then c.put_decimal-b.ensures then c.put_bytes-c.ensures then c.put_decimal-d.ensures then c.put_bytes-e.ensures then c.put_decimal-f.ensures then c.put_bytes.ensures
