use native.Mathlib.Omega.{arith}
use Rattle.slices.proofs.CopyLaws.{copied_some, passed_all}
use Rattle.slices.proofs.write.put_some.Goals as goal
use Rattle.slices.proofs.write.put_some.Goals.{then-at-out, else-at-out}

pub returns : goal.returns
returns c =
    let a = c.args in
    elim c.if-at-out.branch [
      | then-at-out w ↦ rw w.out-is (copied_some a.out.now a.s.now _ a.at _ _ w.if-at-out.true (omega arith) w.copy_bytes.ensures c.saturating_add.ensures)
      | else-at-out w ↦ rw w.out-is (passed_all a.out.now a.s.now a.at _ (omega arith) w.if-at-out.false c.saturating_add.ensures)
    ]
