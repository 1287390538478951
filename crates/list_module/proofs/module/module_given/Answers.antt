use Rattle.std.proofs.lemmas.Result.{err_from_is_err_and}
use mathlib.Core.Path.{refl}
use Rattle.operation.proofs.EndedLaws.{read_on, refused_on}
use Rattle.listing.specs.Functions.{area_of}
use Rattle.listing.specs.Parts.{options_of}
use Rattle.list_module.proofs.ModuleEnd.{module_under, module_is}
use Rattle.list_module.proofs.module.module_given.Goals as goal

pub returns-in_err-last : goal.returns-in_err-last
returns-in_err-last c =
    let a = c.args in
    let o = options_of a.options in
    let ar = area_of a.area.functions.now a.area.bytes.now a.area.base in
    let p = err_from_is_err_and c.from_residual.result c.from_residual.ensures.1 in
    let given = rw c.in_err-last.was at c.read_inputs.ensures in
    rw (module_is o a.sheet.now a.strings.bytes.now a.strings.ends.now ar, p.1, p.2) (refused_on (module_under o ar) given refl refl)

pub returns : goal.returns
returns c =
    let a = c.args in
    let o = options_of a.options in
    let ar = area_of a.area.functions.now a.area.bytes.now a.area.base in
    let given = rw c.in_ok-last.was at c.read_inputs.ensures in
    rw (module_is o a.sheet.now a.strings.bytes.now a.strings.ends.now ar) (read_on (module_under o ar) given c.module_under.ensures)
