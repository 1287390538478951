use mathlib.Core.Path.{sym, ◌∙◌}
use native.Mathlib.Omega.{arith}
use borrow.Author.Tests.{lt-leb, le-leb}
use Rattle.spec_sheet.specs.Row.{count_of}
use Rattle.encode.specs.Canonical.{canonical_count}
use Rattle.encode.proofs.canonical.canonical_count.Goals as goal

pub returns-then-n-gt4 : goal.returns-then-n-gt4
unfolding canonical_count
returns-then-n-gt4 c = rw (lt-leb (count_of c.args.row) 4 (omega (arith, c.operand_count-n.ensures)))

pub returns-then-in_order : goal.returns-then-in_order
unfolding canonical_count
returns-then-in_order c =
    let row = c.args.row in
    let n = c.operand_count-n.ensures in
    rw (le-leb (count_of row) 4 (omega (arith, n, c.if-n-gt4.false)), rw n at (sym c.in_order.ensures ∙ c.if-in_order.true)) n

pub returns-else-in_order : goal.returns-else-in_order
unfolding canonical_count
returns-else-in_order c =
    let row = c.args.row in
    let n = c.operand_count-n.ensures in
    rw (le-leb (count_of row) 4 (omega (arith, n, c.if-n-gt4.false)), rw n at (sym c.in_order.ensures ∙ c.if-in_order.false))
