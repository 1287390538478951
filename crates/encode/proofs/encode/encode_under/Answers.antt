use mathlib.Core.Path.{ap}
use Prim.Native.Nat.{ℕ}
use lib.ListN.{replicate}
use Rattle.sheet.proofs.AnswerLaws.{is_error}
use Rattle.encode.proofs.EncodeAnswers.{refused, was_refused, measured_end}
use Rattle.encode.proofs.encode.encode_under.Goals as goal

pub returns-in_err-n : goal.returns-in_err-n
returns-in_err-n c =
    let w = c.encode_records in
    rw (is_error _ c.from_residual.ensures.1) (refused (was_refused _ _ _ _ w.ensures c.in_err-n.was) (ap (λ (n : ℕ). replicate n 0) w.auto.out))

pub returns : goal.returns
returns c =
    let m = c.measure.ensures in
    measured_end _ _ _ _ c.encode_records.ensures _ c.in_ok-n.was _ _ m.value m.out_after
