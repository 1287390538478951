use Rattle.std.proofs.Common.{sym}
use Rattle.lists.proofs.Writes.{◌then◌, same_piece}
use Rattle.spec_numbers.specs.Double.{whole_of}
use Rattle.spec_numbers.proofs.DoubleLaws.{print_whole, print_infinity, print_hex}
use Rattle.numbers.proofs.AnswerLaws.{number_is, number_bad}
use Rattle.numbers.proofs.print_double.put_double.Goals as goal

pub returns-in-Some : goal.returns-in-Some
returns-in-Some c =
    let bits = c.args.bits in
    same_piece (sym (print_whole bits (number_is (whole_of bits) _ (sym c.in-Some.ensures)))) (c.put_sign-k.ensures then c.put_decimal.ensures)

pub returns-then-bits-eq9218868437227405312 : goal.returns-then-bits-eq9218868437227405312
returns-then-bits-eq9218868437227405312 c =
    let bits = c.args.bits in
    same_piece (sym (print_infinity bits (number_bad (whole_of bits) (sym c.in_default.ensures)) c.if-bits-eq9218868437227405312.true)) c.put_infinity.ensures

pub returns : goal.returns
returns c =
    let bits = c.args.bits in
    same_piece (sym (print_hex bits (number_bad (whole_of bits) (sym c.in_default.ensures)) c.if-bits-eq9218868437227405312.false)) c.put_bits.ensures
