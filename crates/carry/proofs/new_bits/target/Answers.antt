use native.Mathlib.Omega.{arith}
use borrow.Author.Tests.{lt-ltb, le-ltb}
use mathlib.Core.Path.{refl}
use Rattle.carry.proofs.MarkLaws.{none_marked}
use Rattle.carry.proofs.new_bits.target.Goals as goal

pub overflow_add-sum : goal.overflow_add-sum
overflow_add-sum c = let n = c.numbers_of-numbers.ensures in omega (arith, n.2, n.3, c.requires)

pub returns-then-bits-numbers : goal.returns-then-bits-numbers
returns-then-bits-numbers c = let n = c.numbers_of-numbers.ensures in rw (← n.1, lt-ltb _ _ c.if-bits-numbers.true) c.place_at.ensures

pub returns-then-sum-numbers : goal.returns-then-sum-numbers
returns-then-sum-numbers c = let n = c.numbers_of-numbers.ensures in rw (← n.1, ← n.0, le-ltb _ _ c.if-bits-numbers.false, lt-ltb _ _ c.if-sum-numbers.true) (none_marked 0 refl)

pub returns : goal.returns
returns c = let n = c.numbers_of-numbers.ensures in rw (← n.1, ← n.0, le-ltb _ _ c.if-bits-numbers.false, le-ltb _ _ c.if-sum-numbers.false) c.place_at-2.ensures
