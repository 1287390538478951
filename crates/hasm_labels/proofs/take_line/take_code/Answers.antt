use mathlib.Core.List.{[]}
use native.Mathlib.Omega.{arith}
use Rattle.hasm_labels.proofs.LineTurns.{code_passed}
use Rattle.hasm_labels.proofs.take_line.take_code.Goals as goal

pub returns : goal.returns
returns c =
    let a = c.args in
    λ bytes ends. code_passed _ a.n a.s.now a.source.text.now a.t.now a.labels.now a.p _ c.hold_label-q.result _ (c.in_ok-size.ensures bytes ends) c.hold_label-q.ensures

pub overflow_add-result : goal.overflow_add-result
overflow_add-result c =
    let z = c.in_ok-size.ensures [] [] in
    omega (arith, c.hold_label-q.ensures.offset, c.requires.1.offset, z.short)
