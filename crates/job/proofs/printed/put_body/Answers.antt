use Rattle.spec_job.specs.Printed.{body_text}
use Rattle.lists.specs.Text.{text}
use Rattle.lists.proofs.Writes.{◌then◌}
use Rattle.job.proofs.PrintLaws.{body_length}
use Rattle.job.proofs.printed.put_body.Goals as goal

pub returns : goal.returns
unfolding body_text text
returns c = record { put = c.put_bytes-a.ensures then c.put_hex_bytes-b.ensures.put then c.put_bytes.ensures; s_len = body_length _ c.put_hex_bytes-b.ensures.s_len }
