use Rattle.lists.specs.Text.{text}
use Rattle.job.proofs.table.string_at.Goals as goal

pub returns : goal.returns
unfolding text
returns c = c.keyed_hex_at.ensures
