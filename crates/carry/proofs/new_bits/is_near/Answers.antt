use mathlib.Core.Path.{sym}
use Rattle.carry.proofs.WriteLaws.{near_on, near_back}
use Rattle.carry.proofs.new_bits.is_near.Goals as goal

pub returns-then-at-place : goal.returns-then-at-place
returns-then-at-place c = sym (near_on _ _ c.if-at-place.true)

pub returns : goal.returns
returns c = sym (near_back _ _ c.if-at-place.false)
