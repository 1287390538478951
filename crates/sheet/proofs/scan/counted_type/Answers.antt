use lib.ListN.{length}
use mathlib.Core.Path.{◌≡◌, sym, ◌∙◌, ap}
use Prim.Native.Nat.{ℕ, ◌+◌, ◌-◌}
use native.Mathlib.Omega.{arith}
use borrow.Author.Tests.{leb-true, leb-false}
use Rattle.lists.specs.Scan.{part}
use Rattle.spec_sheet.specs.Types.{type_code}
use Rattle.spec_sheet.proofs.TypeWordLaws.{word_here, word_off, word_short}
use Rattle.sheet.specs.Answers.{step_of}
use Rattle.sheet.proofs.NamePlaces.{was_code, was_no_code}
use Rattle.sheet.proofs.scan.counted_type.Goals as goal

pub returns-then-not-has_left : goal.returns-then-not-has_left
unfolding step_of
returns-then-not-has_left c =
    let a = c.args in
    sym (ap step_of (word_short a.s.now a.at (leb-false _ _ (sym c.has_left.ensures ∙ c.if-not-has_left.true))))

pub returns-in_err-code : goal.returns-in_err-code
unfolding step_of
returns-in_err-code c =
    let a = c.args in
    let n = c.name_bytes_at in
    let i = leb-true (a.at + 4) (length a.s.now) (sym c.has_left.ensures ∙ c.if-not-has_left.false) in
    let e : a.at + 4 + n.result - a.at ≡ 4 + n.result = omega arith in
    let z = was_no_code _ (sym c.type_code.ensures ∙ c.in_err-code.was) in
    c.from_residual.ensures ∙ sym (ap step_of (word_off a.s.now a.at (4 + n.result) i (ap (λ (k : ℕ). 4 + k) n.ensures.0) _ (ap (λ (j : ℕ). type_code (part a.s.now a.at j)) e) z))

pub returns : goal.returns
unfolding step_of
returns c =
    let a = c.args in
    let n = c.name_bytes_at in
    let i = leb-true (a.at + 4) (length a.s.now) (sym c.has_left.ensures ∙ c.if-not-has_left.false) in
    let e : a.at + 4 + n.result - a.at ≡ 4 + n.result = omega arith in
    let w = was_code _ (sym c.type_code.ensures ∙ c.in_ok-code.was) in
    let t = word_here a.s.now a.at (4 + n.result) i (ap (λ (k : ℕ). 4 + k) n.ensures.0) c.in_ok-code.code (sym w.0 ∙ ap (λ (j : ℕ). type_code (part a.s.now a.at j)) e) w.1 in
    let q : a.at + 4 + n.result ≡ a.at + (4 + n.result) = omega arith in
    rw q (sym (ap step_of t))
