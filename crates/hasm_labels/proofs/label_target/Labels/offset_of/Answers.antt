use mathlib.Core.List.{[]}
use mathlib.Core.Path.{sym, ◌∙◌}
use Rattle.lists.proofs.Scans.{same_eq}
use Rattle.hasm_labels.specs.LongLabels.{bare_label}
use Rattle.hasm_labels.proofs.TargetLaws.{bare_at, long_at}
use Rattle.hasm_labels.proofs.label_target.Labels.offset_of.Goals as goal

pub returns-then-same_bytes : goal.returns-then-same_bytes
returns-then-same_bytes c =
    let t = c.args.t.now in
    let e = same_eq t bare_label (sym c.same_bytes.ensures ∙ c.if-same_bytes.true) in
    λ bytes ends. bare_at t (c.args.self.labelled bytes ends) e

pub find_indexed-requires : goal.find_indexed-requires
find_indexed-requires c = record { labels = _; indexed = (c.args.self.labelled [] []).indexed c.if-heads-gt0.true }

pub returns-then-long : goal.returns-then-long
returns-then-long c =
    λ bytes ends. let k = c.args.self.labelled bytes ends in long_at c.args.t.now k _ c.if-long.true (c.find_indexed.ensures _ (k.indexed c.if-heads-gt0.true))
