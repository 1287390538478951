use Rattle.slices.specs.Block.RoomMade.{gone, stays}
use native.Mathlib.Numerals.{unary_clauses}
use native.Mathlib.Omega.{arith}
use mathlib.Core.Path.{refl}
use Rattle.slices.proofs.block.make_room.Goals as goal

pub returns-then-most-n : goal.returns-then-most-n
returns-then-most-n c = gone (simp unary_clauses at c.put_bytes-next.ensures) refl

pub returns : goal.returns
returns c = stays (omega arith) refl refl refl
