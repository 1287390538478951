use Rattle.replay.proofs.WordLaws.{four_bytes}
use Rattle.replay.proofs.assembling.size_at.Goals as goal

pub returns : goal.returns
returns c =
    let a = c.args in
    four_bytes a.input.now a.at (λ i. (c.type_inv.input i).fits) c.read_le.ensures
