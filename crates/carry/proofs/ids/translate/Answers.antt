use mathlib.Core.Path.{ap, ◌∙◌}
use native.Mathlib.Omega.{arith}
use Rattle.carry.specs.Marks.{mark_of}
use Rattle.carry.proofs.Filling.{none_made, one_more}
use Rattle.carry.proofs.IdLaws.{all_made, id_fits, mark_is}
use Rattle.carry.proofs.ids.translate.Goals as goal

pub loop-id-init : goal.loop-id-init
loop-id-init c = none_made _ _ _ _ c.requires.0

pub mark_of-requires : goal.mark_of-requires
mark_of-requires c = rw c.find.ensures (id_fits _ _ _ c.requires.1)

pub loop-id-preserved : goal.loop-id-preserved
loop-id-preserved c =
    one_more _ _ _ _ _ _ c.loop-id.invariant (omega arith) (c.mark_of.ensures ∙ (ap mark_of (rw c.text_of.ensures at c.find.ensures) ∙ mark_is _))

pub returns : goal.returns
returns c = all_made _ _ _ _ _ _ c.loop-id.invariant (omega arith)
