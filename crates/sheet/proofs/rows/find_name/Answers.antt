use mathlib.Core.Path.{sym, ◌∙◌}
use lib.ListN.{take}
use Rattle.sheet.proofs.NameWalk.{name_position}
use Rattle.sheet.proofs.rows.find_name.Goals as goal

pub returns : goal.returns
returns c = let a = c.args in c.named_row.ensures ∙ sym (name_position a.s.now a.name.now (take a.bound a.ops.now))
