use Rattle.replay.proofs.PerformLaws.{value_there, value_none}
use Rattle.replay.proofs.parts.value_read.Goals as goal

pub returns-then-n-eq1 : goal.returns-then-n-eq1
returns-then-n-eq1 c = value_there _ _ c.if-n-eq1.true c.answered.ensures c.put_le.ensures.bytes

pub returns : goal.returns
returns c = value_none _ _ c.if-n-eq1.false c.answered-2.ensures c.clear.ensures
