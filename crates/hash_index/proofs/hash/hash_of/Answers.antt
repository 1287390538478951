use mathlib.Core.Path.{◌≡◌, sym, ap, ◌∙◌}
use Prim.Native.Nat.{ℕ, ◌%◌}
use native.Mathlib.Nat.{mod-lt}
use native.Mathlib.Omega.{arith}
use lib.ListN.{length}
use lib.Seq.{take_all}
use Rattle.spec_numbers.specs.LittleEndian.{le}
use Rattle.hash_index.specs.Hash.{hash_with}
use Rattle.hash_index.proofs.HashLaws.{hash_short, hash_four, short_number}
use Rattle.hash_index.proofs.hash.hash_of.Goals as goal

pub hash_with-requires : goal.hash_with-requires
hash_with-requires c =
    let s = c.args.s.now in
    let few = c.if-n-lt4.true in
    (omega arith, rw c.read_le-x.ensures (short_number (length s) s (λ i. (c.shared_slice_known-1.given i).fits) few))

pub returns-then-n-lt4 : goal.returns-then-n-lt4
returns-then-n-lt4 c =
    let s = c.args.s.now in
    let e : c.hash_with.result ≡ hash_with (length s) (le s) = c.hash_with.ensures.0 ∙ rw (c.read_le-x.ensures, take_all (length s) s (omega arith)) in
    (ap (λ (h : ℕ). h % 65536) e ∙ sym (hash_short s c.if-n-lt4.true), mod-lt _ (omega arith))

pub returns : goal.returns
returns c =
    let s = c.args.s.now in
    (ap (λ (h : ℕ). h % 65536) c.hash_long.ensures ∙ sym (hash_four s c.if-n-lt4.false), mod-lt _ (omega arith))
