use Rattle.std.proofs.lemmas.Result.{err_from_is_err_and}
use Rattle.std.specs.Prelude.{Err}
use mathlib.Core.Path.{ap, ◌∙◌}
use Rattle.listing.proofs.EndLaws.{stopped_end}
use Rattle.list_module.proofs.ModuleEnd.{module_fits, module_refused}
use Rattle.list_module.proofs.module.module_under.Goals as goal

pub returns-in_err-part : goal.returns-in_err-part
returns-in_err-part c =
    let p = err_from_is_err_and c.from_residual.result c.from_residual.ensures.1 in
    stopped_end _ _ c.args.lent (module_refused c.in_err-part.was c.list_functions.ensures) (p.1 ∙ ap Err p.2) c.list_functions.auto.out

pub returns : goal.returns
returns c = module_fits _ _ c.in_ok-part.part c.args.lent _ c.fitting.ensures c.in_ok-part.was c.list_functions.ensures
