use mathlib.Core.Path.{sym, ◌∙◌}
use Rattle.std.proofs.Common.{rules, tests}
use Rattle.std.proofs.lemmas.Iterator.{YieldsList-from_slice}
use Rattle.std.proofs.lemmas.Iterator.Search.{all_from_yields_List}
use Rattle.lists.proofs.Links.{all_list}
use Rattle.slices.specs.Class.{in_class}
use Rattle.slices.proofs.class.all_in.Goals as goal

pub returns : goal.returns
returns c =
    let p = in_class c.args.class in
    all_from_yields_List p _ _ c.all.result c.all.ensures.ran (YieldsList-from_slice c.args.s.now (cc)) (λ x b q k. search (rules, tests))
    ∙ sym (all_list p c.args.s.now)
