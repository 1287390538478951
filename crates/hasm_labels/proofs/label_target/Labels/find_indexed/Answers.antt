use Prim.Native.Nat.{ℕ, ◌-◌}
use mathlib.Core.Path.{sym, ◌∙◌, ap}
use mathlib.Core.List.{List}
use native.Mathlib.Omega.{arith}
use lib.ListN.{length}
use Rattle.lists.specs.Scan.{same}
use Rattle.hash_index.proofs.BackwardLaws.{back_falls}
use Rattle.hasm_labels.specs.Keys.{bucket_at}
use Rattle.hasm_labels.proofs.LabelWalk.{label_start, label_found, label_next, label_nowhere}
use Rattle.hasm_labels.proofs.label_target.Labels.find_indexed.Goals as goal

pub loop-k-init : goal.loop-k-init
loop-k-init c =
    let h = c.bucket_of-h in
    λ ls i. rw c.head_at-k.ensures (label_start ls c.args.t.now i h.result h.ensures.0 h.ensures.1)

pub returns-then-same_bytes : goal.returns-then-same_bytes
returns-then-same_bytes c =
    let a = c.args in
    let l = c.loop-k in
    let h = c.bucket_of-h in
    let r = c.place_of-l in
    let e = ap (λ (s : List ℕ). same s a.t.now) (sym c.part_of-own.ensures) ∙ sym c.same_bytes.ensures ∙ c.if-same_bytes.true in
    λ ls i. label_found ls a.t.now i h.result h.ensures.0 h.ensures.1 l.k (l.invariant ls i) c.loop-k-test.true r.result r.ensures e

pub loop-k-smaller : goal.loop-k-smaller
loop-k-smaller c =
    let p = c.requires in
    let l = c.loop-k in
    let t = c.loop-k-test.true in
    omega (arith, c.next_in-k.ensures, t, back_falls (bucket_at c.args.self.known.heads p.labels) c.args.self.known.heads (length p.labels) c.args.self.index.now p.indexed.chained (l.k - 1) (omega (arith, t, (l.invariant p.labels p.indexed).reached)))

pub loop-k-preserved : goal.loop-k-preserved
loop-k-preserved c =
    let a = c.args in
    let l = c.loop-k in
    let h = c.bucket_of-h in
    let r = c.place_of-l in
    let e = ap (λ (s : List ℕ). same s a.t.now) (sym c.part_of-own.ensures) ∙ sym c.same_bytes.ensures ∙ c.if-same_bytes.false in
    λ ls i. rw c.next_in-k.ensures (label_next ls a.t.now i h.result h.ensures.0 h.ensures.1 l.k (l.invariant ls i) c.loop-k-test.true r.result r.ensures e)

pub returns : goal.returns
returns c =
    let a = c.args in
    let l = c.loop-k in
    λ ls i. label_nowhere ls a.t.now a.self.known.heads c.bucket_of-h.result l.k (l.invariant ls i) c.loop-k-test.false
