use mathlib.Core.Path.{sym, ◌∙◌}
use native.Mathlib.Omega.{arith}
use Rattle.slices.proofs.SameLaws.{other_four, same_four, last_four}
use Rattle.slices.proofs.compare.same_long.Goals as goal

pub returns-then-four_at : goal.returns-then-four_at
returns-then-four_at c =
    let l = c.loop-i in
    let a = c.args in
    sym (other_four a.s.now a.t.now l.i (λ z. c.if-four_at.true (c.four_at.ensures.0 ∙ z ∙ sym c.four_at-in-loop-i.ensures.0)))

pub loop-i-preserved : goal.loop-i-preserved
loop-i-preserved c =
    let l = c.loop-i in
    let a = c.args in
    let e = sym c.four_at.ensures.0 ∙ c.if-four_at.false ∙ c.four_at-in-loop-i.ensures.0 in
    (omega arith, l.invariant.1 ∙ same_four a.s.now a.t.now (λ i. (c.shared_slice_known-1.given i).fits) (λ i. (c.shared_slice_known-2-1.given i).fits) c.requires.1 l.i (omega arith) e)

pub returns : goal.returns
returns c =
    let l = c.loop-i in
    let a = c.args in
    rw (c.four_at-2.ensures.0, c.four_at-3.ensures.0) (last_four a.s.now a.t.now (λ i. (c.shared_slice_known-1.given i).fits) (λ i. (c.shared_slice_known-2-1.given i).fits) c.requires.1 l.i _ (omega arith) (omega arith) l.invariant.1)
