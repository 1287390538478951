use Rattle.std.proofs.lemmas.Result.{err_from_is_err_and}
use Rattle.std.specs.Prelude.{Err}
use mathlib.Core.Path.{refl, ap, sym, ◌∙◌}
use Rattle.listing.proofs.FunctionLaws.{part_size}
use Rattle.list_module.specs.Modules.{list_located}
use Rattle.listing.specs.Bodies.Written.{stopped}
use Rattle.list_module.proofs.function_part.list_located.Goals as goal

pub returns-in_err-f : goal.returns-in_err-f
unfolding list_located
returns-in_err-f c =
    let p = err_from_is_err_and c.from_residual.result c.from_residual.ensures.1 in
    rw (sym c.locate.ensures.value ∙ c.in_err-f.was) (stopped _ refl (p.1 ∙ ap Err p.2))

pub list_titled-requires : goal.list_titled-requires
list_titled-requires c =
    let f = c.in_ok-f.f in
    (part_size c.args.area.bytes.now f.start f.size c.part_of-body.ensures (c.locate.ensures.within _ c.in_ok-f.was).1, c.requires)

pub returns : goal.returns
unfolding list_located
returns c = rw (sym c.locate.ensures.value ∙ c.in_ok-f.was) (rw c.part_of-body.ensures at c.list_titled.ensures)
