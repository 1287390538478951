use Rattle.strings.proofs.BareLaws.{bare_text}
use Rattle.lists.proofs.Writes.{same_piece}
use mathlib.Core.Path.{sym, ◌∙◌}
use Rattle.strings.proofs.escapes.put_escaped_text.Goals as goal

pub returns-then-all_bare : goal.returns-then-all_bare
returns-then-all_bare c = same_piece (sym (bare_text _ (sym c.all_bare.ensures ∙ c.if-all_bare.true))) c.put_bytes.ensures
