use Rattle.std.proofs.Common.{◌^◌, drop, sym, ap, ◌∙◌, arith}
use Rattle.spec_numbers.specs.Parse.{unsigned_value}
use Rattle.std.specs.Prelude.{Some}
use Rattle.numbers.proofs.AnswerLaws.{negated_is, negated_bad, read_bound}
use Rattle.numbers.proofs.parse.parse_minus.Goals as goal

pub returns-in_err-n : goal.returns-in_err-n
returns-in_err-n c =
    c.from_residual.ensures ∙ sym (negated_bad (unsigned_value 10 (2 ^ 31) (drop 1 c.args.s.now)) (sym c.in_err-n.ensures))

pub minus_bits-requires : goal.minus_bits-requires
minus_bits-requires c = omega (arith, read_bound 10 (2 ^ 31) _ (drop 1 c.args.s.now) (sym c.in_ok-n.ensures))

pub returns : goal.returns
returns c =
    ap Some c.minus_bits.ensures ∙ sym (negated_is (unsigned_value 10 (2 ^ 31) (drop 1 c.args.s.now)) _ (sym c.in_ok-n.ensures))
