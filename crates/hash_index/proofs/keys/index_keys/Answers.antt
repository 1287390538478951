use Prim.Native.Nat.{◌-◌}
use native.Mathlib.Omega.{arith}
use mathlib.Core.Path.{◌≡◌, refl, ◌∙◌}
use Rattle.hash_index.proofs.KeyLaws.{keys_none, keys_more, keys_past}
use Rattle.hash_index.proofs.keys.index_keys.Goals as goal

pub loop-i-init : goal.loop-i-init
loop-i-init g c =
    let a = c.args in
    (omega arith, keys_none (g.K.Keys.key_at a.keys.now) a.m c.count-n.result a.index.now _ c.empty_heads.ensures (omega arith), refl)

pub loop-i-preserved-in-Some : goal.loop-i-preserved-in-Some
loop-i-preserved-in-Some g c =
    let a = c.args in
    let l = c.loop-i in
    let h = c.bucket_of-h in
    let put = c.put_in_front in
    (omega arith, keys_more (g.K.Keys.key_at a.keys.now) a.m c.count-n.result l.index _ l.i (l.i - 1) l.invariant.1 (omega arith) (omega arith) h.result c.in-Some.text.now c.in-Some.ensures h.ensures.0 h.ensures.1 put.ensures, put.auto.index ∙ l.invariant.2)

pub loop-i-preserved : goal.loop-i-preserved
loop-i-preserved g c =
    let a = c.args in
    let l = c.loop-i in
    (omega arith, keys_past (g.K.Keys.key_at a.keys.now) a.m c.count-n.result l.index l.index l.i (l.i - 1) l.invariant.1 (omega arith) (omega arith) c.in_default.ensures, l.invariant.2)

pub returns : goal.returns
returns g c =
    let l = c.loop-i in
    let z : l.i ≡ 0 = omega arith in
    rw (c.count-n.ensures, z) at l.invariant.1
