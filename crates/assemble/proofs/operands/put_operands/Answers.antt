use Rattle.assemble.proofs.TokenPlaces.{token_short}
use Rattle.assemble.proofs.ValueLaws.{map_ok}
use Rattle.sheet.proofs.AnswerLaws.{is_error}
use native.Mathlib.Omega.{arith}
use mathlib.Core.Path.{refl}
use Rattle.assemble.proofs.OperandsLoop.{start, at_zero, at_end, turn, refuses}
use borrow.Author.Rules.{rules}
use Rattle.assemble.proofs.operands.put_operands.Goals as goal

pub loop-i-init : goal.loop-i-init
loop-i-init c = start (search rules) (omega arith) (omega arith)

pub returns-then-code-eq0 : goal.returns-then-code-eq0
returns-then-code-eq0 c = at_zero c.loop-i.invariant _ c.loop-i-test.true refl c.if-code-eq0.true

pub operand_value-requires-clause-work_long : goal.operand_value-requires-clause-work_long
operand_value-requires-clause-work_long c = omega (arith, c.requires.work_long, token_short c.args.s.now _ c.loop-i.p _ c.trim-t.ensures)

pub returns-in_err-bits : goal.returns-in_err-bits
returns-in_err-bits c =
    rw (is_error _ c.from_residual.ensures.1) (refuses c.loop-i.invariant _ _ _ _ c.loop-i-test.true refl c.if-code-eq0.false c.comma_from-end.ensures.0 c.comma_from-end.ensures.1 c.trim-t.ensures c.operand_value.ensures _ _ (search rules) (search rules))

pub loop-i-preserved : goal.loop-i-preserved
loop-i-preserved c = turn c.loop-i.invariant _ _ _ _ c.loop-i-test.true refl c.if-code-eq0.false c.comma_from-end.ensures.0 c.comma_from-end.ensures.1 c.trim-t.ensures c.operand_value.ensures _ _ _ (map_ok _ _ _ c.map_err.ensures.cases c.in_ok-bits.was) c.behind_comma-p.ensures refl c.put_value-n.ensures

pub returns : goal.returns
returns c = at_end c.loop-i.invariant c.loop-i-test.false
