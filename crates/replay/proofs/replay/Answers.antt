use Rattle.std.proofs.Common.{◌≡◌, refl, arith}
use Rattle.replay.specs.Turns.Agreed.{start}
use Rattle.replay.proofs.TurnLaws.{agrees_too, was_stopped, was_full}
use Rattle.replay.proofs.replay.Goals as goal

pub loop-agreed-init : goal.loop-agreed-init
loop-agreed-init c = start _

pub loop-agreed-preserved : goal.loop-agreed-preserved
loop-agreed-preserved c = agrees_too c.loop-agreed.invariant c.next_case.ensures c.in-Ok.is

pub returns-in-Err : goal.returns-in-Err
returns-in-Err c = was_stopped c.loop-agreed.invariant c.next_case.ensures c.in-Err.is

pub returns : goal.returns
returns c = was_full (let e : c.loop-agreed.agreed ≡ 1000000 = omega arith in rw e at c.loop-agreed.invariant) refl _
