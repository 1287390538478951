use native.Mathlib.Omega.{arith}
use Rattle.replay.proofs.CaseLaws.{room_large, room_words, room_value, room_low, room_high}
use Rattle.replay.proofs.parts.lent_size.Goals as goal

pub returns-then-room-gt65536 : goal.returns-then-room-gt65536
returns-then-room-gt65536 c = room_large _ _ c.if-room-gt65536.true

pub returns-in-1 : goal.returns-in-1
returns-in-1 c = room_words _ _ c.if-room-gt65536.false c.in-1.is

pub returns-in-3-to-6 : goal.returns-in-3-to-6
returns-in-3-to-6 c = room_value c.args.operation _ c.if-room-gt65536.false (omega arith) (omega arith) (omega arith)

pub returns-in_default : goal.returns-in_default
returns-in_default c = room_low c.args.operation _ c.if-room-gt65536.false (omega arith) (omega arith)

pub returns-in_default-2 : goal.returns-in_default-2
returns-in_default-2 c = room_high c.args.operation _ c.if-room-gt65536.false (omega arith) (omega arith)
