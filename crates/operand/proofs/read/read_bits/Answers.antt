use Rattle.spec_sheet.proofs.TypeLaws.{width_most}
use Rattle.spec_sheet.specs.Types.{width_of}
use Rattle.spec_numbers.proofs.ByteLaws.{le_bound}
use Rattle.lists.proofs.Parts.{bytes_drop}
use lib.ListN.{drop}
use native.Mathlib.Omega.{arith}
use Rattle.operand.proofs.read.read_bits.Goals as goal

pub read_le-requires : goal.read_le-requires
read_le-requires c =
    let a = c.args in
    let w = c.width.ensures in
    (omega (arith, w, c.requires), omega (arith, w, width_most a.code))

pub returns : goal.returns
returns c =
    let a = c.args in
    let e = rw c.width.ensures at c.read_le.ensures in
    (e, rw e (le_bound (width_of a.code) (drop a.at a.s.now) (bytes_drop a.s.now a.at (λ i. (c.shared_slice_known-1.given i).fits))))
