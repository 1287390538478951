use Rattle.std.proofs.Common.{arith, le-ltb, lt-ltb}
use Rattle.spec_numbers.specs.Print.{digit}
use Rattle.numbers.proofs.print_digits.digit_char.Goals as goal
use Rattle.numbers.proofs.print_digits.digit_char.Goals.{then-d-lt10, else-d-lt10}

pub returns : goal.returns
unfolding digit
returns c =
    elim c.if-d-lt10.branch [
      | then-d-lt10 w ↦ rw (lt-ltb _ _ w.if-d-lt10.true, w.zero-is) (omega arith)
      | else-d-lt10 w ↦ rw (le-ltb _ _ w.if-d-lt10.false, w.zero-is) (omega arith)
    ]
