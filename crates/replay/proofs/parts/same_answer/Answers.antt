use Rattle.replay.proofs.CaseLaws.{other_number, other_place, other_operand, by_length}
use Rattle.replay.proofs.parts.same_answer.Goals as goal

pub returns-then-b-a : goal.returns-then-b-a
returns-then-b-a c = other_number _ _ c.if-b-a.true

pub returns-then-b-a-2 : goal.returns-then-b-a-2
returns-then-b-a-2 c = other_place _ _ c.if-b-a.false c.if-b-a-2.true

pub returns-then-b-a-3 : goal.returns-then-b-a-3
returns-then-b-a-3 c = other_operand _ _ c.if-b-a.false c.if-b-a-2.false c.if-b-a-3.true

pub returns : goal.returns
returns c =
    by_length _ _ c.if-b-a.false c.if-b-a-2.false c.if-b-a-3.false
