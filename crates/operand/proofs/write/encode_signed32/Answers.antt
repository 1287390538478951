use Rattle.std.proofs.Common.{◌≡◌, ap, ◌∙◌, Some, rules, w8, to_z, of_z}
use Rattle.spec_numbers.specs.TwosComplement.{extend8}
use Rattle.spec_body.specs.Encode.{encode_signed32}
use Rattle.operand.specs.Value.{kind_of_value, bits_of_value}
use Rattle.numbers.proofs.WidthLaws.{unsigned_bits}
use Rattle.operand.proofs.WriteLaws.{own_bits}
use Rattle.operand.proofs.write.encode_signed32.Goals as goal

pub returns-in-I8 : goal.returns-in-I8
unfolding encode_signed32 kind_of_value bits_of_value
returns-in-I8 c beside =
    let e : to_z w8 (of_z w8 c.in-I8.x) ≡ c.in-I8.x = search rules in
    rw c.in-I8.is (ap Some (c.sign_extend8.ensures ∙ ap extend8 (rw e at c.cast_unsigned.ensures ∙ unsigned_bits w8 c.in-I8.x)))

pub returns-in-F64 : goal.returns-in-F64
unfolding encode_signed32 kind_of_value bits_of_value
returns-in-F64 c beside = rw c.in-F64.is

pub returns-in_default : goal.returns-in_default
returns-in_default c beside = rw c.bits_of.ensures (own_bits c.args.v beside 0 c.in_default.not-I8 c.in_default.not-F64)
