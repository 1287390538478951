use mathlib.Core.Path.{sym, ◌∙◌}
use native.Mathlib.Omega.{arith}
use Rattle.lists.proofs.Writes.{same_piece, wrote_none}
use Rattle.strings.proofs.escapes.put_whole.Goals as goal

pub returns : goal.returns
returns c = same_piece (sym (rw (sym c.is_between.ensures ∙ c.if-is_between.false))) (wrote_none (omega arith) (omega arith))
