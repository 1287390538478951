use mathlib.Core.Path.{◌∙◌}
use Rattle.lists.specs.Text.{text}
use Rattle.job.proofs.BodyLaws.{text_or}
use Rattle.job.proofs.reader.text_at.Goals as goal

pub returns : goal.returns
unfolding text
returns c = rw c.literal_at.ensures at c.ok_or.ensures.value ∙ text_or _ _
