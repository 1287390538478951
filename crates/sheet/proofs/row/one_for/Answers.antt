use borrow.Author.Tests.{ne_eqb}
use Rattle.sheet.proofs.row.one_for.Goals as goal

pub returns-then-code-eq0 : goal.returns-then-code-eq0
returns-then-code-eq0 c = rw c.if-code-eq0.true

pub returns-else-code-eq0 : goal.returns-else-code-eq0
returns-else-code-eq0 c = rw (ne_eqb c.args.code 0 c.if-code-eq0.false)
