use Rattle.std.proofs.Common.{sym}
use Rattle.numbers.proofs.TurnLaws.{all_read, not_a_digit, too_large, one_more}
use Rattle.numbers.proofs.parse.parse_digits.Goals as goal
use Rattle.numbers.proofs.parse.parse_digits.Goals.{then-base-d-via-then-base-d, then-base-d-via-else-base-d+then-not-has_room}

pub returns-then-base-d : goal.returns-then-base-d
returns-then-base-d c =
    let a = c.args in
    elim c.then-base-d.branch [
      | then-base-d-via-then-base-d w ↦ not_a_digit a.base a.most _ _ _ c.loop-b.invariant _ c.requires c.loop-b-test.true c.digit_value-d.ensures w.if-base-d.true
      | then-base-d-via-else-base-d+then-not-has_room w ↦ too_large a.base a.most _ _ _ c.loop-b.invariant _ c.requires c.loop-b-test.true c.digit_value-d.ensures w.if-base-d.false (sym w.if-not-has_room.ensures)
    ]

pub loop-b-preserved : goal.loop-b-preserved
loop-b-preserved c =
    let a = c.args in
    one_more a.base a.most _ _ _ c.loop-b.invariant _ c.requires c.loop-b-test.true c.digit_value-d.ensures c.if-base-d.false (sym c.if-not-has_room.ensures)

pub returns : goal.returns
returns c = all_read c.args.base c.args.most _ _ _ c.loop-b.invariant c.loop-b-test.false
