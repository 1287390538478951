use Rattle.std.proofs.Common.{◌≡◌, ◌-◌, ◌+◌, ◌<◌, sym, ◌∙◌, arith}
use Rattle.lists.proofs.Writes.{◌then◌, same_piece, kept_length, wrote_none}
use Rattle.spec_numbers.specs.LittleEndian.{le_bytes}
use Rattle.spec_numbers.proofs.ByteLaws.{le_bytes_step}
use Rattle.numbers.proofs.little_endian.put_le.Goals as goal

pub loop-preserved : goal.loop-preserved
loop-preserved c =
    let b = c.put_byte-k in
    let l = c.loop in
    let m : c.args.w - (l.counter + 1) ≡ c.args.w - l.counter - 1 = omega arith in
    let some : 0 < c.args.w - l.counter = omega arith in
    let e = le_bytes_step (c.args.w - l.counter) l.rest some in
    (omega (arith, b.ensures.next), kept_length b.ensures ∙ l.invariant.1, λ o r q. l.invariant.2 o r (same_piece (sym e) (b.ensures then (rw m at q))))

pub returns : goal.returns
unfolding le_bytes
returns c =
    let l = c.loop in
    let e : c.args.w - l.counter ≡ 0 = omega arith in
    l.invariant.2 _ _ (rw e (wrote_none (omega arith) (omega arith)))
