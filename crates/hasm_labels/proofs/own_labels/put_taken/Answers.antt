use mathlib.Core.Path.{ap, ◌∙◌}
use Prim.Native.Nat.{◌+◌, ◌*◌}
use native.Mathlib.Omega.{arith}
use Rattle.hash_index.specs.Hash.{bucket_of}
use Rattle.hasm_labels.specs.Keys.{start_limit, KeyPut}
use Rattle.hasm_labels.specs.Owning.OwnMore.{one}
use Rattle.hasm_labels.proofs.OwnLaws.{own_at}
use Rattle.hasm_labels.proofs.own_labels.put_taken.Goals as goal

pub put_key-requires : goal.put_key-requires
put_key-requires c =
    let q = c.requires c.if-not-whole.false in
    let h = c.bucket_of-h in
    let f = c.fits_word.ensures c.if-not-fits_word.false in
    let room = c.has_room.ensures c.if-not-has_room.false in
    (h.ensures.1, omega (arith, room.0), omega (arith, room.1), omega (arith, f.0, f.1), omega (arith, room.1, q.2 h.result h.ensures.1))

pub returns : goal.returns
returns c = λ e.
    let a = c.args in
    let h = c.bucket_of-h in
    let f = c.fits_word.ensures c.if-not-fits_word.false in
    let room = c.has_room.ensures c.if-not-has_room.false in
    let q = c.in-Some.part in
    let b = h.ensures.0 ∙ ap (bucket_of a.m) c.part_of-s.ensures in
    let put : KeyPut a.m h.result a.p.kept (q.start + a.p.offset * start_limit) a.index.now _ = record { bucket = h.ensures.1; room = omega (arith, room.0); small = omega (arith, f.0, f.1); put = c.put_key.ensures } in
    (c.if-not-whole.false, one c.if-long-k.false (own_at a.text.now a.m a.p a.index.now _ q c.in-Some.is f.0 f.1 f.2 (rw b at put)))
