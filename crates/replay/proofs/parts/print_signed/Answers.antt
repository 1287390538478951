use mathlib.Core.Path.{◌∙◌}
use Rattle.replay.proofs.PerformLaws.{was_printed, too_wide, as_signed}
use Rattle.replay.proofs.parts.print_signed.Goals as goal

pub returns-then-n-gt4294967295 : goal.returns-then-n-gt4294967295
returns-then-n-gt4294967295 c = too_wide _ _ c.if-n-gt4294967295.true

pub returns : goal.returns
returns c =
    was_printed c.part_print_signed.ensures c.written.ensures ∙ as_signed _ _ c.if-n-gt4294967295.false
