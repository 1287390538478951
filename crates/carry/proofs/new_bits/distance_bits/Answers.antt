use mathlib.Core.Path.{sym}
use Rattle.carry.proofs.WriteLaws.{distance_on, distance_back}
use Rattle.carry.proofs.new_bits.distance_bits.Goals as goal

pub returns-then-at-place : goal.returns-then-at-place
returns-then-at-place c = λ w e. sym (distance_on _ _ w c.if-at-place.true)

pub returns : goal.returns
returns c = λ w e. rw (distance_back _ _ w c.if-at-place.false, e)
