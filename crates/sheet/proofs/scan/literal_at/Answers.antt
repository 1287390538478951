use Rattle.lists.proofs.Scans.{opens_length}
use Rattle.sheet.specs.Answers.{place_of}
use Rattle.spec_sheet.specs.Scan.{literal_at}
use lib.ListN.{length-drop}
use native.Mathlib.Omega.{arith}
use mathlib.Core.Path.{sym, ◌∙◌, refl}
use Rattle.sheet.proofs.scan.literal_at.Goals as goal

pub overflow_add-result : goal.overflow_add-result
overflow_add-result c =
    let a = c.args in
    omega (arith, length-drop a.at a.s.now, opens_length a.p.now _ (sym c.opens_at.ensures ∙ c.if-opens_at.true))

pub returns-then-opens_at : goal.returns-then-opens_at
unfolding literal_at place_of
returns-then-opens_at c = rw (sym c.opens_at.ensures ∙ c.if-opens_at.true) refl

pub returns : goal.returns
unfolding literal_at place_of
returns c = rw (sym c.opens_at.ensures ∙ c.if-opens_at.false) refl
