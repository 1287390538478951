use Rattle.listing.specs.Functions.{area_of}
use Rattle.listing.specs.Parts.{options_of}
use Rattle.listing.specs.Listers.{context_by}
use Rattle.list_module.proofs.ModuleLoop.{Listing}
use Rattle.list_module.proofs.module.list_functions.Given as goal

abbrev pub invariant-loop-id : goal.invariant-loop-id
invariant-loop-id l =
    Listing (options_of l.lister.options) (context_by l.lister) l.lent l.lister.last (area_of l.area.functions.now l.area.bytes.now l.area.base) l.initial.out l.out l.id l.at l.most
