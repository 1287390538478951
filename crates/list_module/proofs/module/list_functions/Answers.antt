use Rattle.std.proofs.lemmas.Result.{err_from_is_err_and}
use Rattle.std.specs.Prelude.{Err}
use mathlib.Core.Path.{ap, ◌∙◌}
use native.Mathlib.Omega.{arith}
use Rattle.listing.specs.Functions.{area_of}
use Rattle.listing.specs.Parts.{options_of}
use Rattle.listing.specs.Listers.{context_by}
use Rattle.list_module.proofs.ModuleLaws.{in_place}
use Rattle.list_module.proofs.ModuleLoop.{listing_start, listing_turn, listing_stopped, listing_finished}
use Rattle.list_module.proofs.module.list_functions.Goals as goal

pub loop-id-init : goal.loop-id-init
loop-id-init c =
    let l = c.args.lister.now in
    let a = c.args.area in
    listing_start (options_of l.options) (context_by l) c.args.lent l.last (area_of a.functions.now a.bytes.now a.base) (omega arith)

pub list_located-requires : goal.list_located-requires
list_located-requires c = omega (arith, c.loop-id.invariant.at_is)

pub returns-in_err-part : goal.returns-in_err-part
returns-in_err-part c =
    let l = c.args.lister.now in
    let a = c.args.area in
    let p = err_from_is_err_and c.from_residual.result c.from_residual.ensures.1 in
    let w = in_place (options_of l.options) (context_by l) c.args.lent l.last a.functions.now a.bytes.now a.base _ c.list_located.ensures in
    listing_stopped (options_of l.options) (context_by l) c.args.lent l.last (area_of a.functions.now a.bytes.now a.base) _ c.loop-id.invariant (omega arith) w c.in_err-part.was (p.1 ∙ ap Err p.2)

pub loop-id-preserved : goal.loop-id-preserved
loop-id-preserved c =
    let l = c.args.lister.now in
    let a = c.args.area in
    let w = in_place (options_of l.options) (context_by l) c.args.lent l.last a.functions.now a.bytes.now a.base _ c.list_located.ensures in
    listing_turn (options_of l.options) (context_by l) c.args.lent l.last (area_of a.functions.now a.bytes.now a.base) c.loop-id.invariant (omega arith) w c.in_ok-part.was c.capped-at.ensures c.max-most.ensures

pub returns : goal.returns
returns c =
    let l = c.args.lister.now in
    let a = c.args.area in
    listing_finished (options_of l.options) (context_by l) c.args.lent l.last (area_of a.functions.now a.bytes.now a.base) c.loop-id.invariant (omega arith)
