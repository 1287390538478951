use mathlib.Core.Path.{refl, ap, ◌∙◌}
use mathlib.Core.Bool.{false}
use native.Mathlib.Omega.{arith}
use Rattle.hash_index.specs.Hash.{bucket_of}
use Rattle.hasm_labels.specs.Keys.{KeyPut}
use Rattle.hasm_labels.proofs.LabelLaws.{labels_none}
use Rattle.hasm_labels.proofs.LabelWalk.{indexed_none, slot_heads, slot_more}
use Rattle.hasm_labels.proofs.label_index.index_slots.Goals as goal

pub loop-k-init : goal.loop-k-init
loop-k-init c =
    let a = c.args in
    let b = c.requires.1 in
    (rw (labels_none a.text.now a.labels.now) (indexed_none false a.text.now a.labels.now a.index.now _ a.m c.empty_chains.ensures b.some b.few b.room), refl)

pub put_key-requires : goal.put_key-requires
put_key-requires c =
    let a = c.args in
    let l = c.loop-k in
    let room = c.has_room.ensures c.if-not-has_room.false in
    let h = c.bucket_of-h in
    let t = c.loop-k-test.true in
    let e = l.invariant.1 ∙ c.empty_chains.auto.index in
    (h.ensures.1, omega (arith, room.0, e, t), omega (arith, room.1, t), omega arith, omega (arith, room.1, t, slot_heads a.text.now a.labels.now l.index a.m l.k l.invariant.0 (omega (arith, c.requires.0, t)) h.result h.ensures.1))

pub loop-k-preserved : goal.loop-k-preserved
loop-k-preserved c =
    let a = c.args in
    let l = c.loop-k in
    let room = c.has_room.ensures c.if-not-has_room.false in
    let h = c.bucket_of-h in
    let t = c.loop-k-test.true in
    let e = l.invariant.1 ∙ c.empty_chains.auto.index in
    let s = c.put_key in
    let b = h.ensures.0 ∙ ap (bucket_of a.m) c.label_text-s.ensures in
    let put : KeyPut a.m h.result l.k 0 l.index _ = record { bucket = h.ensures.1; room = omega (arith, room.0, e, t); small = omega arith; put = s.ensures } in
    (slot_more a.text.now a.labels.now l.index a.m l.k l.invariant.0 (omega (arith, c.requires.0, t)) _ (omega (arith, c.requires.0, t)) (rw b at put), s.auto.index ∙ l.invariant.1)
