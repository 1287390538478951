use Rattle.std.proofs.Common.{arith}
use Rattle.lists.proofs.Tests.{by_leb}
use Rattle.spec_numbers.proofs.SignedLaws.{extend_small, extend_large}
use Rattle.numbers.proofs.signed.sign_extend8.Goals as goal

pub returns : goal.returns
returns c =
    let b = c.args.b in
    by_leb 128 b (λ l. omega (arith, extend_large b l c.ranges.b.fits)) (λ l. omega (arith, extend_small b l))
