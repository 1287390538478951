use mathlib.Core.Path.{◌≡◌, refl, sym, ◌∙◌}
use lib.ListN.{length}
use native.Mathlib.Omega.{arith}
use Rattle.lists.proofs.Parts.{part_at, part_length}
use Rattle.encode.proofs.CanonicalLaws.{zero_met, zero_ended}
use Rattle.encode.specs.RecordPlaces.{record_at}
use Rattle.encode.proofs.canonical.bare_words.Goals as goal

pub loop-j-init : goal.loop-j-init
loop-j-init c = (omega arith, refl)

pub loop-j-preserved : goal.loop-j-preserved
loop-j-preserved c =
    let l = c.loop-j in
    let a = c.args in
    let s = record_at a.words.now a.at in
    let n : length s ≡ 20 = part_length a.words.now a.at 20 c.requires in
    (omega arith, l.invariant.1 ∙ (zero_met s l.met l.j (omega arith) ∙ rw (part_at a.words.now a.at 20 l.j 0 c.loop-j-test.true)))

pub returns : goal.returns
returns c =
    let l = c.loop-j in
    let a = c.args in
    let s = record_at a.words.now a.at in
    let n : length s ≡ 20 = part_length a.words.now a.at 20 c.requires in
    sym (l.invariant.1 ∙ zero_ended s l.met l.j (omega arith))
