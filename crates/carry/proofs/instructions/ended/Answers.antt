use mathlib.Core.Path.{sym, ap}
use Rattle.carry.specs.Carried.{ended_with}
use Rattle.carry.proofs.instructions.ended.Goals as goal

pub returns-in-None : goal.returns-in-None
unfolding ended_with
returns-in-None c = sym (ap (ended_with c.args.k) c.in-None.is)

pub returns-in-Some : goal.returns-in-Some
unfolding ended_with
returns-in-Some c = sym (ap (ended_with c.args.k) c.in-Some.is)
