use lib.ListN.{length}
use mathlib.Core.Path.{sym, ap, ◌∙◌}
use Rattle.lists.proofs.Tests.{true_not_false}
use Rattle.replay.specs.Lent.{are_clear}
use Rattle.replay.proofs.LentLaws.{cleared_clear}
use Rattle.replay.proofs.OperationLaws.{was_ended}
use Rattle.replay.proofs.assembling.assemble_text.Goals as goal

pub returns-then-are_clear : goal.returns-then-are_clear
returns-then-are_clear c = was_ended _ _ _ c.desk_assemble-a.ensures.ended

pub returns : goal.returns
returns c =
    let d = c.desk_assemble-a.ensures.labels_after in
    let a = c.args in
    true_not_false _ (ap are_clear d ∙ cleared_clear (length a.labels.now)) (sym c.are_clear.ensures ∙ c.if-are_clear.false)
