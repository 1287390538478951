use Rattle.std.proofs.Common.{sym, arith}
use Rattle.spec_numbers.specs.Parse.{minus}
use Rattle.spec_numbers.proofs.ParseLaws.{minus_some}
use Rattle.numbers.proofs.parse.minus_bits.Goals as goal

pub returns-then-n-eq0 : goal.returns-then-n-eq0
unfolding minus
returns-then-n-eq0 c = rw c.if-n-eq0.true

pub returns-else-n-eq0 : goal.returns-else-n-eq0
returns-else-n-eq0 c = sym (minus_some c.args.n (omega arith))
