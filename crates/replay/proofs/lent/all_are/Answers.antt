use Rattle.std.proofs.Common.{ℕ, rules, tests, sym, ◌∙◌}
use Rattle.std.proofs.lemmas.Iterator.{YieldsList-from_slice}
use Rattle.std.proofs.lemmas.Iterator.Search.{all_from_yields_List}
use lib.Dec.{eqb}
use Rattle.lists.proofs.Links.{all_list}
use Rattle.replay.proofs.lent.all_are.Goals as goal

pub returns : goal.returns
returns c =
    let p = λ (x : ℕ). eqb x c.args.b in
    all_from_yields_List p _ _ c.all.result c.all.ensures.ran (YieldsList-from_slice c.args.s.now (cc)) (λ x b q k. search (rules, tests))
    ∙ sym (all_list p c.args.s.now)
