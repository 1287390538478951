use mathlib.Core.Path.{sym, ◌∙◌}
use native.Mathlib.Omega.{arith}
use borrow.Author.Tests.{eqb-true, eqb-false}
use Rattle.lists.proofs.LeftToWrite.{left_all, left_turn, left_none}
use Rattle.spec_strings.specs.Escape.{escape_text}
use Rattle.strings.proofs.EscapeTurns.{escape_turn, escape_broken, escape_end}
use Rattle.spec_strings.proofs.CharLaws.{limit_most, small_turn}
use Rattle.strings.specs.States.{state_number}
use Rattle.strings.proofs.escapes.put_characters.Goals as goal

pub loop-b-init : goal.loop-b-init
unfolding escape_text
loop-b-init c = (omega arith, left_all (omega arith) (omega arith))

pub shape_of-out-then-is_broken : goal.shape_of-out-then-is_broken
shape_of-out-then-is_broken c = c.loop-b.invariant.1.same_size

pub returns-then-is_broken : goal.returns-then-is_broken
returns-then-is_broken c =
    left_none c.loop-b.invariant.1 (escape_broken _ _ _ _ c.loop-b-test.true (sym c.step-next.ensures ∙ eqb-true _ _ (sym c.is_broken.ensures ∙ c.if-is_broken.true)))

pub bits_after-bits-requires : goal.bits_after-bits-requires
bits_after-bits-requires c = let l = c.loop-b in omega (arith, limit_most (state_number l.state), l.invariant.0)

pub loop-b-preserved : goal.loop-b-preserved
loop-b-preserved c =
    let l = c.loop-b in
    let whole = eqb-false _ _ (sym c.is_broken.ensures ∙ c.if-is_broken.false) in (
      rw (c.carried-acc.ensures, c.bits_after-bits.ensures) (small_turn _ _ _ _ l.invariant.0 c.step-next.ensures whole),
      left_turn l.invariant.1 (escape_turn _ _ _ _ c.loop-b-test.true c.step-next.ensures whole c.bits_after-bits.ensures c.carried-acc.ensures) c.put_whole-k.ensures,
    )

pub shape_of-out : goal.shape_of-out
shape_of-out c = c.loop-b.invariant.1.same_size

pub returns : goal.returns
returns c = left_none c.loop-b.invariant.1 (escape_end _ _ _ _ c.loop-b-test.false)
