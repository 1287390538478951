use Rattle.hasm_labels.specs.Sources.{context_of}
use Rattle.assemble.proofs.PassLaws.{good_text, body_end, refused_text}
use Rattle.sheet.proofs.AnswerLaws.{is_error}
use mathlib.Core.Path.{◌∙◌}
use Rattle.assemble.proofs.passes.put_indexed.Goals as goal

pub returns-in_err-k-clause-ended : goal.returns-in_err-k-clause-ended
returns-in_err-k-clause-ended c =
    let a = c.args in
    let p = c.requires.names_good in
    let x = good_text (context_of a.source a.strings.bytes.now a.strings.ends.now) a.source.text.now p.1 (p.0 a.strings.bytes.now a.strings.ends.now).named in
    refused_text _ _ _ (x ∙ c.in_err-k.ensures) (is_error _ c.from_residual.ensures.1) c.put_labelled.auto.out

pub returns-clause-ended : goal.returns-clause-ended
returns-clause-ended c =
    let a = c.args in
    let p = c.requires.names_good in
    let n = p.0 a.strings.bytes.now a.strings.ends.now in
    let m = c.measure.ensures in
    rw (good_text (context_of a.source a.strings.bytes.now a.strings.ends.now) a.source.text.now p.1 n.named) (body_end _ _ _ _ _ c.in_ok-k.ensures n.counted m.value m.out_after)
