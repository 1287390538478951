use lib.ListN.{get_or}
use borrow.Author.Tests.{eqb-true}
use Rattle.sheet.proofs.TypesLoop.{start, ninth, failed, turn, done}
use Rattle.sheet.proofs.AnswerLaws.{was_next, was_off}
use Rattle.sheet.specs.Lines.{types_of}
use Rattle.spec_sheet.proofs.ScanLaws.{type_bound}
use Rattle.lists.proofs.Parts.{inside}
use native.Mathlib.Omega.{arith}
use Prim.Native.Nat.{◌%◌}
use mathlib.Core.Path.{◌≡◌, sym, ◌∙◌, ap}
use Rattle.sheet.proofs.line.types_from.Goals as goal

pub loop-i-init : goal.loop-i-init
loop-i-init c = start _ _

pub returns-in_err-t : goal.returns-in_err-t
unfolding types_of
returns-in_err-t c =
    let l = c.loop-i in
    c.from_residual.ensures ∙ ap types_of (sym (failed _ _ _ _ _ l.invariant c.loop-i-test.true (was_off _ (sym c.type_at.ensures ∙ c.in_err-t.was))))

pub overflow_add-at : goal.overflow_add-at
overflow_add-at c =
    let b = c.in_ok-t.t.next in
    let e = eqb-true (get_or c.args.s.now b 0) 44 (sym c.byte_is.ensures ∙ c.if-not-byte_is.false) in
    let h = inside c.args.s.now b (λ z. omega (arith, e)) in
    omega (arith, h)

pub loop-i-preserved : goal.loop-i-preserved
loop-i-preserved c =
    let l = c.loop-i in
    let e = was_next _ (sym c.type_at.ensures ∙ c.in_ok-t.was) in
    let m = type_bound _ _ _ _ e in
    let q : c.in_ok-t.t.value % 256 ≡ c.in_ok-t.t.value = omega (arith, m) in
    rw q (turn _ _ _ _ _ l.invariant c.loop-i-test.true _ _ e (sym c.byte_is.ensures ∙ c.if-not-byte_is.false))

pub returns-then-not-byte_is : goal.returns-then-not-byte_is
returns-then-not-byte_is c =
    let l = c.loop-i in
    let e = was_next _ (sym c.type_at.ensures ∙ c.in_ok-t.was) in
    let m = type_bound _ _ _ _ e in
    let q : c.in_ok-t.t.value % 256 ≡ c.in_ok-t.t.value = omega (arith, m) in
    rw q (done _ _ _ _ _ l.invariant c.loop-i-test.true _ _ e (sym c.byte_is.ensures ∙ c.if-not-byte_is.true))

pub returns : goal.returns
unfolding types_of
returns c =
    let l = c.loop-i in
    ap types_of (sym (ninth _ _ _ _ _ l.invariant c.loop-i-test.false))
