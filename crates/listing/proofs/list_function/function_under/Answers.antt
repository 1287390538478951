use mathlib.Core.Path.{refl, sym, ◌∙◌}
use Rattle.listing.specs.Functions.{function_under}
use Rattle.listing.proofs.EndLaws.{cleared_end}
use Rattle.listing.proofs.FunctionLaws.{part_size}
use Rattle.listing.proofs.list_function.function_under.Goals as goal

pub returns-in-Err : goal.returns-in-Err
unfolding function_under
returns-in-Err c =
    let r = c.refuse.ensures in
    rw (sym c.locate.ensures.value ∙ c.in-Err.is) (cleared_end _ _ _ refl r.value r.out_after)

pub list_under-requires : goal.list_under-requires
list_under-requires c =
    let a = c.args in
    let f = c.in-Ok.f in
    part_size a.area.bytes.now f.start f.size c.part_of-body.ensures (c.locate.ensures.within _ c.in-Ok.is).1

pub returns-in-Ok : goal.returns-in-Ok
unfolding function_under
returns-in-Ok c = rw (sym c.locate.ensures.value ∙ c.in-Ok.is) (rw c.part_of-body.ensures at c.list_under.ensures)
