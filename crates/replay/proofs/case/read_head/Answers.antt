use Rattle.std.proofs.Common.{refl, ap, Ok}
use Rattle.replay.specs.Cases.Reads.{numbers, nothing, cut}
use Rattle.replay.proofs.case.read_head.Goals as goal

pub returns-then-got-eq0 : goal.returns-then-got-eq0
returns-then-got-eq0 c = nothing refl

pub returns-then-got-ne36 : goal.returns-then-got-ne36
returns-then-got-ne36 c = cut refl

pub returns : goal.returns
returns c =
    numbers c.fill-got.new.s c.fill-got.auto.s (ap Ok c.head_of.ensures)
