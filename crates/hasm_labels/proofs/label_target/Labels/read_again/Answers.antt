use Rattle.hasm_labels.proofs.TargetLaws.{not_refused}
use Rattle.hasm_labels.proofs.label_target.Labels.read_again.Goals as goal

pub returns-in_default : goal.returns-in_default
returns-in_default c =
    λ bytes ends. not_refused _ c.args.self.source.text.now (rw c.in_default.is at (c.read_names-read.ensures bytes ends)).0 (c.args.self.labelled bytes ends).named
