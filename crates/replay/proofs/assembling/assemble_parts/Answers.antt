use lib.ListN.{length}
use mathlib.Core.Path.{◌∙◌}
use Rattle.replay.proofs.OperationLaws.{parts_short, parts_whole}
use Rattle.replay.proofs.assembling.assemble_parts.Goals as goal

pub returns-then-rest-behind : goal.returns-then-rest-behind
returns-then-rest-behind c =
    let a = c.args in
    parts_short a.sheet.now a.rest.now a.ends.now _ a.size (length a.labels.now) a.out.now c.requires.0 c.if-rest-behind.true

pub returns : goal.returns
returns c =
    let a = c.args in
    c.assemble_text.ensures
    ∙ parts_whole a.sheet.now a.rest.now a.ends.now _ a.size (length a.labels.now) a.out.now c.requires.0 c.if-rest-behind.false _ _ c.part_of.ensures c.ends_of.ensures
