use mathlib.Core.Path.{ap}
use Rattle.answers.specs.Answers.{answer_report}
use Rattle.operation.proofs.EndedLaws.{read_on, refused_on}
use Rattle.listing.specs.Parts.{options_of}
use Rattle.listing.proofs.EndLaws.{cleared_end}
use Rattle.listing.proofs.OperationLaws.{list_large, list_small, body_under}
use Rattle.listing.proofs.list.list_given.Goals as goal

pub returns-then-body-gt-BODY_LIMIT : goal.returns-then-body-gt-BODY_LIMIT
returns-then-body-gt-BODY_LIMIT c =
    let a = c.args in
    let r = c.refuse.ensures in
    cleared_end _ _ _ (list_large (options_of a.options) a.sheet.now a.strings.bytes.now a.strings.ends.now a.body.now c.if-body-gt-BODY_LIMIT.true) r.value r.out_after

pub returns-in-Err : goal.returns-in-Err
returns-in-Err c =
    let a = c.args in
    let o = options_of a.options in
    let r = c.refuse-in-Err.ensures in
    rw (list_small o a.sheet.now a.strings.bytes.now a.strings.ends.now a.body.now c.if-body-gt-BODY_LIMIT.false) (refused_on (body_under o a.body.now) c.in-Err.ensures (ap answer_report r.value) r.out_after)

pub returns-in-Ok : goal.returns-in-Ok
returns-in-Ok c =
    let a = c.args in
    let o = options_of a.options in
    rw (list_small o a.sheet.now a.strings.bytes.now a.strings.ends.now a.body.now c.if-body-gt-BODY_LIMIT.false) (read_on (body_under o a.body.now) c.in-Ok.ensures c.list_under.ensures)
