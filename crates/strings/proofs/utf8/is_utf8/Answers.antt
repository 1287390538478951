use mathlib.Core.Path.{sym, ◌∙◌}
use native.Mathlib.Omega.{arith}
use borrow.Author.Tests.{eqb-true}
use lib.ListN.{length-take, length-drop}
use Rattle.spec_strings.proofs.Utf8Laws.{utf8_at, utf8_end}
use Rattle.strings.proofs.AsciiLaws.{past_ascii, past_from}
use Rattle.strings.proofs.utf8.is_utf8.Goals as goal

pub loop-i-init : goal.loop-i-init
loop-i-init c = let r = c.ascii_run-i.ensures in (r.within, rw r.place (past_ascii c.args.s.now))

pub loop-i-preserved-then-is_between : goal.loop-i-preserved-then-is_between
loop-i-preserved-then-is_between c =
    let r = c.ascii_run-i-then-is_between.ensures in (
      omega (arith, c.loop-i-test.true, (simp (length-take, length-drop) at r.within)),
      c.loop-i.invariant.1 ∙ utf8_at _ _ _ c.loop-i-test.true c.step-state.ensures ∙ past_from _ c.args.s.now _ (eqb-true _ _ (sym c.is_between.ensures ∙ c.if-is_between.true)) r.place,
    )

pub loop-i-preserved : goal.loop-i-preserved
loop-i-preserved c = (omega arith, c.loop-i.invariant.1 ∙ utf8_at _ _ _ c.loop-i-test.true c.step-state.ensures)

pub returns : goal.returns
returns c = c.is_between-2.ensures ∙ sym (c.loop-i.invariant.1 ∙ utf8_end _ _ _ c.loop-i-test.false)
