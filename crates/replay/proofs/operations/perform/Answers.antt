use Rattle.std.proofs.Common.{arith}
use mathlib.Core.Path.{◌∙◌}
use Rattle.replay.proofs.OperationLaws.{decodes, encodes, assembles, runs, does_part}
use Rattle.replay.proofs.operations.perform.Goals as goal

pub returns-in-1 : goal.returns-in-1
returns-in-1 c = c.decode.ensures ∙ decodes _ _ _ _ c.in-1.is

pub returns-in-2 : goal.returns-in-2
returns-in-2 c = c.encode.ensures ∙ encodes _ _ _ _ c.in-2.is

pub returns-in-13 : goal.returns-in-13
returns-in-13 c = c.assemble.ensures ∙ assembles _ _ _ _ c.in-13.is

pub returns-in-14 : goal.returns-in-14
returns-in-14 c = c.run.ensures ∙ runs _ _ _ _ c.in-14.is

pub returns-in_default : goal.returns-in_default
returns-in_default c =
    c.perform_part.ensures ∙ does_part c.args.operation _ _ _ (omega arith) (omega arith) (omega arith) (omega arith)
