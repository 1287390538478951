use Rattle.carry.proofs.MarkLaws.{none_marked, some_marked}
use Rattle.carry.proofs.marks.marked.Goals as goal

pub returns-then-mark-eq0 : goal.returns-then-mark-eq0
returns-then-mark-eq0 c = none_marked _ c.if-mark-eq0.true

pub returns : goal.returns
returns c = some_marked _ c.if-mark-eq0.false
