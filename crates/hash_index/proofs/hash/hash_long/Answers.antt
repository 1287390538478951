use mathlib.Core.Path.{sym, ap, ◌∙◌}
use Prim.Native.Nat.{ℕ, ◌-◌}
use native.Mathlib.Nat.{mod-lt, sub-zero}
use native.Mathlib.Omega.{arith}
use lib.ListN.{length, drop, length-drop}
use lib.Seq.{take_all}
use Rattle.spec_numbers.specs.LittleEndian.{le}
use Rattle.hash_index.specs.Hash.{hash_with, hash_long}
use Rattle.hash_index.proofs.HashLaws.{hash_go, hash_end}
use Rattle.hash_index.proofs.hash.hash_long.Goals as goal

pub loop-i-init : goal.loop-i-init
loop-i-init c = (omega arith, mod-lt _ (omega arith), rw sub-zero)

pub loop-i-preserved : goal.loop-i-preserved
loop-i-preserved c =
    let l = c.loop-i in
    let s = c.args.s.now in
    (omega arith, c.hash_with-h.ensures.1, l.invariant.2 ∙ hash_go l.h s l.i c.loop-i-test.true ∙ rw (c.hash_with-h.ensures.0, c.four_bytes-x.ensures.0))

pub returns : goal.returns
unfolding hash_long
returns c =
    let l = c.loop-i in
    let s = c.args.s.now in
    let front = sym (l.invariant.2 ∙ hash_end l.h s l.i c.loop-i-test.false) in
    let back = take_all 4 (drop (length s - 4) s) (omega (arith, length-drop (length s - 4) s)) in
    c.hash_with.ensures.0 ∙ rw (c.four_bytes-last.ensures.0, back) (ap (λ (h : ℕ). hash_with h (le (drop (length s - 4) s))) front)
