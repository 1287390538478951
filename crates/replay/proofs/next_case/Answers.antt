use Rattle.replay.proofs.TurnLaws.{next_tried, next_none}
use Rattle.replay.proofs.next_case.Goals as goal

pub returns : goal.returns
returns c = next_tried c.read_head.ensures c.in_ok-head.was c.try_case.ensures
