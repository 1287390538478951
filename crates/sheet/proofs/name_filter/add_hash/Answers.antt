use native.Mathlib.Omega.{arith}
use Prim.Native.Nat.{◌%◌}
use Rattle.sheet.proofs.FilterLaws.{bit_is}
use Rattle.sheet.specs.NameFilter.{with_hash}
use Rattle.sheet.proofs.name_filter.add_hash.Goals as goal

pub returns : goal.returns
unfolding with_hash
returns c = rw (bit_is (c.args.h % 64) (omega arith))
