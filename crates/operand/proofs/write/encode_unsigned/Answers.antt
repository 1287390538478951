use Rattle.std.proofs.Common.{◌≡◌, ◌^◌, ltb, ◌∙◌, arith}
use Rattle.std.specs.Bool.{then_some}
use Rattle.spec_sheet.specs.Types.{width_of}
use Rattle.operand.specs.Value.{kind_of_value, bits_of_value}
use Rattle.operand.proofs.WriteLaws.{no_unsigned, unsigned_if}
use Rattle.operand.proofs.write.encode_unsigned.Goals as goal
use Rattle.operand.proofs.write.encode_unsigned.Goals.{in-U8, in-U16, in-U32}

pub returns-in_default : goal.returns-in_default
returns-in_default c beside = no_unsigned c.args.v beside c.args.code c.in_default.not-U8 c.in_default.not-U16 c.in_default.not-U32

pub returns : goal.returns
unfolding kind_of_value bits_of_value
returns c beside =
    let code = c.args.code in
    let n = c.match-v.bits in
    let e : c.then_some.result ≡ then_some (ltb n (256 ^ width_of code)) n = rw (← c.width.ensures, ← c.fits_in.ensures) c.then_some.ensures in
    elim c.match-v.branch [
      | in-U8 w ↦ rw (w.in-U8.is, ← w.bits-is) (e ∙ unsigned_if code 0 n (omega arith))
      | in-U16 w ↦ rw (w.in-U16.is, ← w.bits-is) (e ∙ unsigned_if code 1 n (omega arith))
      | in-U32 w ↦ rw (w.in-U32.is, ← w.bits-is) (e ∙ unsigned_if code 2 n (omega arith))
    ]
