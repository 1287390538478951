use Rattle.replay.proofs.CaseLaws.{front_short, front_cut, front_read}
use Rattle.replay.proofs.case.read_front.Goals as goal

pub returns-then-s-n : goal.returns-then-s-n
returns-then-s-n c = front_short _ _
