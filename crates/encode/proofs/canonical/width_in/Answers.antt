use mathlib.Core.Path.{sym}
use lib.ListN.{get_or-eq_default}
use Rattle.spec_sheet.specs.Types.{widths, width_of}
use Rattle.encode.proofs.CanonicalLaws.{width_at}
use Rattle.encode.proofs.canonical.width_in.Goals as goal

pub returns-then-code-gt12 : goal.returns-then-code-gt12
unfolding width_of
returns-then-code-gt12 c = sym (get_or-eq_default widths 0 c.if-code-gt12.true)

pub returns : goal.returns
returns c =
    let a = c.args in
    width_at a.codes.now c.requires a.code
