use native.Mathlib.Omega.{arith}
use Rattle.sheet.proofs.Filled.{none_made, one_more}
use Rattle.decode.proofs.TableLaws.{plans_made}
use borrow.Author.Rules.{rules}
use Rattle.decode.proofs.tables.plan_rows.Goals as goal

pub loop-op-init : goal.loop-op-init
loop-op-init c = none_made _ _

pub loop-op-preserved : goal.loop-op-preserved
loop-op-preserved c = one_more _ _ _ _ _ c.loop-op.invariant (search rules) c.plan_row.ensures

pub returns : goal.returns
returns c = plans_made c.args.types.now _ _ _ _ c.loop-op.invariant (λ o h k. omega arith)
