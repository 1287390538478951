use mathlib.Core.Path.{sym}
use borrow.Author.Tests.{lt-leb, le-leb}
use Rattle.carry.proofs.plans.is_copied.Goals as goal

pub returns-then-instruction_length-gt8 : goal.returns-then-instruction_length-gt8
returns-then-instruction_length-gt8 c = rw (sym c.instruction_length.ensures.0, lt-leb _ _ c.if-instruction_length-gt8.true)

pub returns : goal.returns
returns c = rw (sym c.instruction_length.ensures.0, le-leb _ _ c.if-instruction_length-gt8.false) c.keeps_all.ensures
