use Rattle.std.proofs.Common.{sym, ◌∙◌, arith}
use Rattle.numbers.proofs.ByteSums.{le_four}
use Rattle.numbers.proofs.little_endian.four_bytes.Goals as goal

pub returns : goal.returns
returns c =
    let a = c.args in
    (c.four_at.ensures.0 ∙ sym (le_four a.s.now a.at (omega arith)), c.four_at.ensures.1)
