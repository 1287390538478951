use mathlib.Core.Path.{ap}
use Rattle.answers.specs.Answers.{answer_report}
use Rattle.operation.specs.Places.{located_of}
use Rattle.operation.proofs.EndedLaws.{read_on, refused_on}
use Rattle.listing.specs.Functions.{function_under}
use Rattle.listing.specs.Parts.{options_of}
use Rattle.listing.proofs.FunctionLaws.{function_as}
use Rattle.listing.proofs.list_function.function_given.Goals as goal

pub returns-in-Err : goal.returns-in-Err
returns-in-Err c =
    let a = c.args in
    let o = options_of a.options in
    let r = c.refuse.ensures in
    let then = function_under o a.area.bytes.now (located_of a.area.functions.now a.area.bytes.now a.area.base a.id) in
    rw (function_as o a.sheet.now a.strings.bytes.now a.strings.ends.now a.area.functions.now a.area.bytes.now a.area.base a.id) (refused_on then c.in-Err.ensures (ap answer_report r.value) r.out_after)

pub returns-in-Ok : goal.returns-in-Ok
returns-in-Ok c =
    let a = c.args in
    let o = options_of a.options in
    let then = function_under o a.area.bytes.now (located_of a.area.functions.now a.area.bytes.now a.area.base a.id) in
    rw (function_as o a.sheet.now a.strings.bytes.now a.strings.ends.now a.area.functions.now a.area.bytes.now a.area.base a.id) (read_on then c.in-Ok.ensures c.function_under.ensures)
