use native.Mathlib.Omega.{arith}
use mathlib.Core.Path.{ap, sym, ◌∙◌}
use Rattle.hash_index.specs.Keys.{KeysIndexed, first_key}
use Rattle.hash_index.proofs.KeyLaws.{key_room, key_start, key_rises, key_next, key_found, key_missing}
use Rattle.hash_index.proofs.keys.find_key.Goals as goal

pub index_at-i-requires : goal.index_at-i-requires
index_at-i-requires g c = omega (arith, key_room (g.K.Keys.key_at c.args.keys.now) (g.K.Keys.amount c.args.keys.now) c.args.m c.args.index.now c.requires.2, c.bucket_of-h.ensures.1)

pub loop-i-init : goal.loop-i-init
loop-i-init g c =
    let a = c.args in
    let h = c.bucket_of-h in
    let x : KeysIndexed (g.K.Keys.key_at a.keys.now) a.m c.count-n.result a.index.now = rw c.count-n.ensures c.requires.2 in
    rw c.index_at-i.ensures (key_start (g.K.Keys.key_at a.keys.now) c.count-n.result a.text.now a.m h.result h.ensures.0 h.ensures.1 a.index.now x)

pub returns-then-is_key : goal.returns-then-is_key
returns-then-is_key g c =
    let a = c.args in
    let l = c.loop-i in
    key_found (g.K.Keys.key_at a.keys.now) c.count-n.result a.text.now a.m c.bucket_of-h.result l.i l.invariant (omega arith) (sym c.is_key.ensures ∙ c.if-is_key.true)
    ∙ ap (λ n. first_key (g.K.Keys.key_at a.keys.now) n a.text.now) c.count-n.ensures

pub index_at-i-requires-in-loop-i : goal.index_at-i-requires-in-loop-i
index_at-i-requires-in-loop-i g c = omega (arith, key_room (g.K.Keys.key_at c.args.keys.now) (g.K.Keys.amount c.args.keys.now) c.args.m c.args.index.now c.requires.2, c.loop-i-test.true, c.count-n.ensures)

pub loop-i-smaller : goal.loop-i-smaller
loop-i-smaller g c =
    let a = c.args in
    let h = c.bucket_of-h in
    let l = c.loop-i in
    let x : KeysIndexed (g.K.Keys.key_at a.keys.now) a.m c.count-n.result a.index.now = rw c.count-n.ensures c.requires.2 in
    omega (arith, c.index_at-i-in-loop-i.ensures, key_rises (g.K.Keys.key_at a.keys.now) c.count-n.result a.text.now a.m h.result h.ensures.0 h.ensures.1 a.index.now x l.i l.invariant (omega arith))

pub loop-i-preserved : goal.loop-i-preserved
loop-i-preserved g c =
    let a = c.args in
    let h = c.bucket_of-h in
    let l = c.loop-i in
    let x : KeysIndexed (g.K.Keys.key_at a.keys.now) a.m c.count-n.result a.index.now = rw c.count-n.ensures c.requires.2 in
    rw c.index_at-i-in-loop-i.ensures (key_next (g.K.Keys.key_at a.keys.now) c.count-n.result a.text.now a.m h.result h.ensures.0 h.ensures.1 a.index.now x l.i l.invariant (omega arith) (sym c.is_key.ensures ∙ c.if-is_key.false))

pub returns : goal.returns
returns g c =
    let a = c.args in
    let l = c.loop-i in
    key_missing (g.K.Keys.key_at a.keys.now) c.count-n.result a.text.now a.m c.bucket_of-h.result l.i l.invariant (omega arith)
    ∙ ap (λ n. first_key (g.K.Keys.key_at a.keys.now) n a.text.now) c.count-n.ensures
