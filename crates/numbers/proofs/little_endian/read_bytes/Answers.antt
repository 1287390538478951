use Rattle.std.proofs.Common.{◌≡◌, ◌+◌, ◌-◌, drop, ◌∙◌, add-zero, arith}
use native.Mathlib.Nat.{sub-zero}
use Rattle.lists.proofs.Parts.{bytes_drop}
use Rattle.spec_numbers.specs.LittleEndian.{le}
use Rattle.spec_numbers.proofs.ByteLaws.{le_room, le_step}
use Rattle.numbers.proofs.little_endian.read_bytes.Goals as goal

pub loop-k-init : goal.loop-k-init
unfolding le
loop-k-init c =
    let e : c.args.n - c.args.n ≡ 0 = omega arith in
    rw e

pub overflow_mul-v : goal.overflow_mul-v
overflow_mul-v c =
    let a = c.args in
    let l = c.loop-k in
    let room = le_room (a.n - l.k) (drop (a.at + l.k) a.s.now) (bytes_drop a.s.now (a.at + l.k) (λ i. (c.type_inv.s i).fits)) (omega arith) in
    omega (arith, l.invariant, room)

pub overflow_add-v-in-loop-k : goal.overflow_add-v-in-loop-k
overflow_add-v-in-loop-k c =
    let a = c.args in
    let l = c.loop-k in
    let room = le_room (a.n - l.k) (drop (a.at + l.k) a.s.now) (bytes_drop a.s.now (a.at + l.k) (λ i. (c.type_inv.s i).fits)) (omega arith) in
    omega (arith, l.invariant, room, (c.type_inv.s (a.at + (l.k - 1))).fits)

pub loop-k-preserved : goal.loop-k-preserved
loop-k-preserved c =
    let l = c.loop-k in
    let a = c.args in
    omega (arith, l.invariant, le_step a.s.now a.at a.n (l.k - 1) l.k (omega arith) (omega arith) (omega arith))

pub returns : goal.returns
returns c =
    let k : c.loop-k.k ≡ 0 = omega arith in
    c.loop-k.invariant ∙ rw (k, sub-zero, add-zero)
