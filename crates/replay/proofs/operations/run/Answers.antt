use native.Mathlib.Omega.{arith}
use Rattle.std.proofs.Common.{ap, ◌∙◌, Err}
use Rattle.std.proofs.lemmas.Result.{err_from_is_err_and}
use Rattle.sheet.proofs.AnswerLaws.{or_value, or_error}
use Rattle.lists.proofs.Writes.{same_piece}
use Rattle.replay.proofs.OperationLaws.{ran_done, ran_short}
use Rattle.replay.proofs.operations.run.Goals as goal

pub returns-in_err-k : goal.returns-in_err-k
returns-in_err-k c =
    let a = c.args in
    let o = or_error _ _ c.ok_or.ensures.value c.in_err-k.was in
    let p = err_from_is_err_and c.from_residual.result c.from_residual.ensures.1 in
    rw (p.1, p.2, o.1) (ran_short a.job.now _ _ _ c.run.ensures (omega (arith, c.zeroed-text.type_inv)) o.0 a.out.now)

pub returns : goal.returns
returns c =
    let a = c.args in
    ran_done a.job.now _ _ _ c.run.ensures (omega (arith, c.zeroed-text.type_inv)) (or_value _ _ c.ok_or.ensures.value c.in_ok-k.was) (same_piece c.part_of.ensures c.put_bytes.ensures) c.written.ensures
