use mathlib.Core.Path.{sym, ◌∙◌}
use Prim.Native.Nat.{ℕ}
use Rattle.std.proofs.Common.{rules, tests}
use Rattle.std.proofs.lemmas.Iterator.{YieldsList-from_slice, YieldsList-from_zip}
use Rattle.std.proofs.lemmas.Iterator.Search.{all_from_yields_List}
use Rattle.carry.specs.Plans.{keeps_type}
use Rattle.carry.proofs.KeptLaws.{kept_beside}
use Rattle.carry.proofs.plans.keeps_all.Goals as goal

pub returns : goal.returns
returns c =
    all_from_yields_List (λ (p : ℕ × ℕ). keeps_type p.0 p.1) c.all.new.self _ c.all.result c.all.ensures.ran (YieldsList-from_zip (YieldsList-from_slice c.args.row (cc)) (YieldsList-from_slice c.args.new (cc))) (λ x b q k. search (rules, tests))
    ∙ sym (kept_beside c.args.row c.args.new (search rules))
