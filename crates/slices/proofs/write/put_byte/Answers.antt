use Rattle.lists.proofs.Writes.{wrote, passed}
use mathlib.Core.Path.{refl}
use native.Mathlib.Omega.{arith}
use Rattle.slices.proofs.write.put_byte.Goals as goal

pub returns-then-at-out : goal.returns-then-at-out
returns-then-at-out c = wrote (omega arith) (omega arith) refl

pub returns : goal.returns
returns c = passed (omega arith) (omega arith) (omega arith) refl
