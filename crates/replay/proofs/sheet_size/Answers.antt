use Rattle.replay.proofs.CaseLaws.{sheet_before, sheet_own}
use Rattle.replay.proofs.sheet_size.Goals as goal

pub returns-then-head-eq0 : goal.returns-then-head-eq0
returns-then-head-eq0 c = let a = c.args in sheet_before a.head a.used c.if-head-eq0.true

pub returns-else-head-eq0 : goal.returns-else-head-eq0
returns-else-head-eq0 c = let a = c.args in sheet_own a.head a.used c.if-head-eq0.false
