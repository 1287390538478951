use Rattle.slices.proofs.CopyLaws.{copy_start, copy_turn}
use lib.ListN.{length, length-set}
use native.Mathlib.Omega.{arith}
use mathlib.Core.Path.{◌≡◌, refl, ◌∙◌}
use Prim.Native.Nat.{◌+◌}
use lib.Seq.{take_all}
use Rattle.lists.proofs.Writes.{same_piece}
use Rattle.slices.proofs.write.copy_bytes.Goals as goal

pub loop-i-init : goal.loop-i-init
loop-i-init c = (omega arith, refl, copy_start _ c.args.s.now _ (omega arith) (omega arith))

pub loop-i-preserved : goal.loop-i-preserved
loop-i-preserved c = let l = c.loop-i in (omega arith, length-set l.out (c.args.at + l.i) _ ∙ l.invariant.1, copy_turn _ _ _ _ _ c.loop-i-test.true (omega arith) (omega arith) l.invariant.2)

pub returns : goal.returns
returns c =
    let e : c.loop-i.i ≡ length c.args.s.now = omega arith in
    rw e at (same_piece (take_all _ _ c.loop-i-test.false) c.loop-i.invariant.2)
