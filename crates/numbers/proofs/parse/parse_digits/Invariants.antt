use Rattle.std.proofs.Common.{◌≡◌, drop}
use Rattle.spec_numbers.specs.Parse.{digits_value}
use Rattle.numbers.proofs.parse.parse_digits.Given as goal

abbrev pub invariant-loop-b : goal.invariant-loop-b
invariant-loop-b l = digits_value l.base l.most 0 l.digits ≡ digits_value l.base l.most l.acc (drop l.b-index l.digits)
