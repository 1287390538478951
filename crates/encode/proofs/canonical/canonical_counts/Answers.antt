use mathlib.Core.Path.{refl, ◌∙◌}
use lib.ListN.{length-set}
use native.Mathlib.Omega.{arith}
use Rattle.encode.proofs.CanonicalLaws.{count_more}
use Rattle.encode.proofs.canonical.canonical_counts.Goals as goal

pub loop-op-init : goal.loop-op-init
loop-op-init c = (omega arith, refl, λ o h. absurd (omega arith))

pub loop-op-preserved : goal.loop-op-preserved
loop-op-preserved c =
    let l = c.loop-op in
    let a = c.args in
    (omega arith, length-set l.counts l.op c.canonical_count.result ∙ l.invariant.1, count_more a.types.now l.counts l.op c.canonical_count.result (omega (arith, l.invariant.1)) c.canonical_count.ensures l.invariant.2)

pub returns : goal.returns
returns c = λ o h. c.loop-op.invariant.2 o (omega arith)
