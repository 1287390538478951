use Rattle.std.proofs.Common.{arith}
use Rattle.numbers.proofs.ByteSums.{le_split}
use Rattle.numbers.proofs.little_endian.eight_bytes.Goals as goal

pub returns : goal.returns
returns c =
    let a = c.args in
    let e = le_split a.s.now a.at 4 4 (omega arith) in
    (omega (arith, e, c.four_bytes.ensures.0, c.four_bytes-2.ensures.0), omega (arith, c.four_bytes.ensures.1, c.four_bytes-2.ensures.1))
