use native.Mathlib.Omega.{arith}
use mathlib.Core.List.{[]}
use mathlib.Core.Path.{refl, ◌∙◌}
use Rattle.hasm_read.proofs.LineLaws.{short_behind}
use Rattle.hasm_labels.proofs.NamesLaws.{going_line}
use Rattle.hasm_labels.proofs.OwnLaws.{owning_start, owning_heads, owning_turn, owning_end}
use Rattle.hasm_labels.proofs.names_pass.read_names.Goals as goal

pub loop-at-init : goal.loop-at-init
loop-at-init c =
    let a = c.args in
    let i = c.start_index-indexed in
    ((λ bytes ends. rw c.at_start-p.ensures (owning_start _ a.source.text.now a.t.now a.labels.now a.m i.result a.index.now _ i.ensures c.requires)), refl, a.source.short, refl)

pub take_line-requires : goal.take_line-requires
take_line-requires c =
    let l = c.loop-at in
    going_line c.line_end-end.result (l.invariant.0 [] []).going c.loop-at-test.true c.line_end-end.ensures c.args.source.limited l.invariant.2

pub put_taken-indexed-requires : goal.put_taken-indexed-requires
put_taken-indexed-requires c =
    let l = c.loop-at in
    let o = l.invariant.0 [] [] in
    λ w.
    let b = c.requires (o.indexed w []).some in
    (record { some = b.some; few = b.few; room = omega (arith, b.room, l.invariant.3, c.start_index-indexed.auto.index) }, omega (arith, o.going.kept, o.going.near, c.args.source.limited), owning_heads o w)

pub returns-in-Err : goal.returns-in-Err
returns-in-Err c =
    let a = c.args in
    let l = c.loop-at in
    let t = c.take_line in
    λ bytes ends. (rw c.in-Err.is at (t.ensures bytes ends a.labels.now (l.invariant.0 bytes ends).going), rw (t.auto.labels, l.invariant.1) at c.clear_labels.ensures)

pub loop-at-preserved : goal.loop-at-preserved
loop-at-preserved c =
    let l = c.loop-at in
    let t = c.take_line in
    let k = c.put_taken-indexed in
    ((λ bytes ends. let o = l.invariant.0 bytes ends in owning_turn o (rw c.in-Ok.is at (t.ensures bytes ends _ o.going)) k.ensures), t.auto.labels ∙ l.invariant.1, short_behind _ l.at _ c.loop-at-test.true c.line_end-end.ensures.0 l.invariant.2, k.auto.index ∙ l.invariant.3)

pub returns : goal.returns
returns c =
    let l = c.loop-at in
    λ bytes ends. owning_end (l.invariant.0 bytes ends) c.loop-at-test.false c.args.source.limited

pub overflow_add-n : goal.overflow_add-n
overflow_add-n c = omega (arith, (c.loop-at.invariant.0 [] []).going.few, c.loop-at-test.true, c.args.source.limited)
