use mathlib.Core.Path.{sym, ◌∙◌}
use lib.ListN.{length}
use lib.Dec.{leb}
use Prim.Native.Nat.{◌+◌, ◌*◌}
use native.Mathlib.Omega.{arith}
use borrow.Author.Tests.{leb-true}
use Rattle.lists.proofs.Tests.{both_left, both_right}
use Rattle.encode.proofs.RecordLaws.{canonical_known, turn_canonical, turn_more}
use Rattle.encode.proofs.record.encode_record.Goals as goal

pub put_record-k-requires : goal.put_record-k-requires
put_record-k-requires c =
    let a = c.args in
    let r = sym c.has_room.ensures ∙ c.if-has_room.true in
    let m = leb-true (a.from + 41) (length a.out.now) (both_right (leb 8 a.spare) _ r) in
    let k = canonical_known a.types.now a.last (20 * a.i) a.words.now (sym c.is_canonical.ensures ∙ c.if-is_canonical.true) in
    (c.requires.0, c.requires.2, m, omega (arith, k, c.requires.3))

pub returns-then-is_canonical : goal.returns-then-is_canonical
returns-then-is_canonical c =
    let a = c.args in
    let m = leb-true 8 a.spare (both_left _ _ (sym c.has_room.ensures ∙ c.if-has_room.true)) in
    let e = sym c.is_canonical.ensures ∙ c.if-is_canonical.true in
    turn_canonical a.types.now a.last a.i (20 * a.i) a.words.now _ _ a.from a.spare _ e c.requires.2 m c.put_record-k.ensures

pub returns : goal.returns
returns c = turn_more c.encode_any.ensures
