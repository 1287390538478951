use Rattle.std.proofs.Common.{◌≡◌, ◌+◌, ◌-◌, ◌*◌, arith}
use Rattle.numbers.proofs.ByteSums.{le_shifted}
use Rattle.numbers.proofs.little_endian.read_of_eight.Goals as goal

pub returns : goal.returns
returns c =
    let a = c.args in
    let m = 8 - a.n in
    let b = a.at + a.n - 8 in
    let j : m + a.n ≡ 8 = omega arith in
    let e : b + m ≡ a.at = omega arith in
    let x = le_shifted a.s.now b m a.n (32 - 4 * a.n) (λ i. (c.shared_slice_known-1.given i).fits) (omega arith) (omega arith) in
    rw c.eight_bytes.ensures.0 (rw (j, e) at x)
