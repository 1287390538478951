use Rattle.listing.proofs.BodyLaws.{cleared_flags, cleared_size}
use lib.ListN.{length}
use mathlib.Core.Path.{◌≡◌}
use native.Mathlib.Omega.{arith}
use borrow.Author.Rules.{rules}
use Rattle.listing.proofs.body.list_sized.Goals as goal

pub list_flagged-requires : goal.list_flagged-requires
list_flagged-requires g c =
    let q = c.requires in
    let f = c.zeroed-flags.result in
    let h : length f ≡ g.row.N = search rules in
    record { flags_value = cleared_flags f _ c.clear.ensures; s_in_bounds = (omega (arith, h, cleared_size f _ c.clear.ensures, q.0), omega (arith, h, cleared_size f _ c.clear.ensures, q.1), q.2) }
