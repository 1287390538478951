use Rattle.std.proofs.Common.{List, ℕ, rules, tests, get_or, ◌&&◌, sym, ◌∙◌}
use Rattle.std.proofs.lemmas.Iterator.{YieldsList-from_slice}
use Rattle.std.proofs.lemmas.Iterator.Search.{all_from_yields_List}
use lib.Dec.{eqb}
use Rattle.replay.proofs.LentLaws.{clear_list}
use Rattle.replay.proofs.assembling.are_clear.Goals as goal

pub returns : goal.returns
returns c =
    let p = λ (e : List ℕ). eqb (get_or e 0 0) 0 && (eqb (get_or e 1 0) 0 && eqb (get_or e 2 0) 0) in
    all_from_yields_List p _ _ c.all.result c.all.ensures.ran (YieldsList-from_slice c.args.labels.now (cc)) (λ x b q k. search (rules, tests))
    ∙ sym (clear_list c.args.labels.now)
