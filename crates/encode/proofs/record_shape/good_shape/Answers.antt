use borrow.Author.Tests.{lt-leb, le-leb}
use Rattle.lists.proofs.Parts.{part_at}
use Rattle.spec_body.specs.Encode.{good_shape}
use native.Mathlib.Omega.{arith}
use mathlib.Core.Path.{refl}
use Prim.Native.Nat.{◌+◌}
use lib.ListN.{get_or}
use Rattle.encode.proofs.record_shape.good_shape.Goals as goal

pub returns-then-count-le8 : goal.returns-then-count-le8
unfolding good_shape
returns-then-count-le8 c =
    let a = c.args in
    rw (part_at a.words.now a.at 20 3 0 (omega arith), le-leb (get_or a.words.now (a.at + 3) 0) 8 c.if-count-le8.true) c.good_pairs.ensures

pub returns-else-count-le8 : goal.returns-else-count-le8
unfolding good_shape
returns-else-count-le8 c =
    let a = c.args in
    rw (part_at a.words.now a.at 20 3 0 (omega arith), lt-leb (get_or a.words.now (a.at + 3) 0) 8 c.if-count-le8.false) refl
