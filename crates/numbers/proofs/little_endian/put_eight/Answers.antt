use Rattle.std.proofs.Common.{◌≡◌, ◌+◌, ◌-◌, length, ◌∙◌, arith}
use Rattle.spec_numbers.specs.LittleEndian.{le_bytes}
use Rattle.spec_numbers.proofs.ByteLaws.{length_le_bytes}
use Rattle.numbers.proofs.LowBytes.{bytes_of, copied}
use Rattle.numbers.proofs.little_endian.put_eight.Goals as goal

pub returns : goal.returns
returns c =
    let a = c.args in
    let e : c.copy_from_slice.new.self ≡ le_bytes 8 a.v = c.copy_from_slice.ensures.after ∙ (c.to_le_bytes.ensures ∙ bytes_of 8 a.v) in
    let k : a.at + 8 - a.at ≡ length (le_bytes 8 a.v) = omega (arith, length_le_bytes 8 a.v) in
    rw e (copied a.out.now (le_bytes 8 a.v) a.at (a.at + 8 - a.at) k (omega (arith, length_le_bytes 8 a.v)))
