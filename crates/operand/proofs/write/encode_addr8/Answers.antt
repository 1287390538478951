use Rattle.std.proofs.Common.{◌≡◌, ltb, leb, lt-ltb, le-ltb, ap, ◌∙◌, Some, rules, w8, w32, to_z, of_z}
use Rattle.lists.specs.Choice.{either}
use Rattle.spec_body.specs.Encode.{encode_addr8}
use Rattle.operand.specs.Value.{kind_of_value, bits_of_value}
use Rattle.numbers.proofs.WidthLaws.{unsigned_bits}
use Rattle.operand.proofs.WriteLaws.{no_address, signed_byte_if}
use Rattle.operand.proofs.write.encode_addr8.Goals as goal
use Rattle.operand.proofs.write.encode_addr8.Goals.{then-bits-lt128, else-bits-lt128}

pub returns-in-U8 : goal.returns-in-U8
unfolding encode_addr8 kind_of_value bits_of_value
returns-in-U8 c beside = rw c.in-U8.is

pub returns-in-I8 : goal.returns-in-I8
unfolding encode_addr8 kind_of_value bits_of_value
returns-in-I8 c beside =
    let e : to_z w8 (of_z w8 c.in-I8.x) ≡ c.in-I8.x = search rules in
    rw c.in-I8.is (ap Some (rw e at c.cast_unsigned.ensures ∙ unsigned_bits w8 c.in-I8.x))

pub returns-after-bits-lt128 : goal.returns-after-bits-lt128
unfolding kind_of_value bits_of_value
returns-after-bits-lt128 c beside =
    let e : to_z w32 (of_z w32 c.in-I32.x) ≡ c.in-I32.x = search rules in
    let b = rw e at c.cast_unsigned-bits.ensures ∙ unsigned_bits w32 c.in-I32.x in
    let n = c.cast_unsigned-bits.result in
    let t : c.if-bits-lt128.then_some ≡ either (ltb n 128) (leb 4294967168 n) = elim c.if-bits-lt128.branch [
      | then-bits-lt128 w ↦ w.then_some-is ∙ rw (lt-ltb n 128 w.if-bits-lt128.true)
      | else-bits-lt128 w ↦ w.then_some-is ∙ rw (le-ltb n 128 w.if-bits-lt128.false)
    ] in
    rw (c.in-I32.is, ← b) (rw t at c.then_some.ensures ∙ signed_byte_if n)

pub returns-in_default : goal.returns-in_default
returns-in_default c beside = no_address c.args.v beside c.in_default.not-U8 c.in_default.not-I8 c.in_default.not-I32
