use Rattle.list_labels.proofs.CollectLaws.{met_count, was_refused, all_flagged, enough_lent, near_only, with_far}
use Rattle.list_labels.specs.Readable.{readable}
use Rattle.list_labels.specs.OpcodeRows.{opcodes_of}
use Rattle.spec_body.specs.Decode.{decode_body}
use Rattle.std.proofs.lemmas.Result.{err_from_is_err_and}
use native.Mathlib.Omega.{arith}
use Rattle.list_labels.proofs.collect.collect_label_offsets.Goals as goal

pub returns-in_err-met : goal.returns-in_err-met
returns-in_err-met c =
    let b = c.args.body in
    let w = c.walk.ensures in
    let o = opcodes_of b.types.now b.rows.now in
    let p = err_from_is_err_and c.from_residual.result c.from_residual.ensures.1 in
    record { collected_for = rw (p.1, p.2) (was_refused o (decode_body b.types.now b.last b.bytes.now) _ _ w.value.0 _ c.in_err-met.was c.args.lent); flagged = all_flagged o (readable b.types.now b.last b.bytes.now) c.args.flags.now _ _ _ _ _ w.noted c.requires.1 }

pub overflow_add-near : goal.overflow_add-near
overflow_add-near c = omega (arith, met_count _ c.in_ok-met.was c.walk.ensures.value.1, c.args.body.few)

pub returns-then-near-far : goal.returns-then-near-far
returns-then-near-far c =
    let b = c.args.body in
    let w = c.walk.ensures in
    let o = opcodes_of b.types.now b.rows.now in
    record { collected_for = enough_lent o b.last b.bytes.now c.args.flags.now _ _ w.value.0 _ c.in_ok-met.was b.few c.requires.1 c.args.lent c.if-near-far.true; flagged = all_flagged o (readable b.types.now b.last b.bytes.now) c.args.flags.now _ _ _ _ _ w.noted c.requires.1 }

pub returns-then-far-eq0 : goal.returns-then-far-eq0
returns-then-far-eq0 c =
    let b = c.args.body in
    let w = c.walk.ensures in
    let o = opcodes_of b.types.now b.rows.now in
    record { collected_for = near_only o b.last b.bytes.now c.args.flags.now _ _ w.value.0 _ c.in_ok-met.was b.few c.requires.1 c.args.lent c.if-far-eq0.true; flagged = all_flagged o (readable b.types.now b.last b.bytes.now) c.args.flags.now _ _ _ _ _ w.noted c.requires.1 }

pub overflow_add-result-2 : goal.overflow_add-result-2
overflow_add-result-2 c = omega (arith, met_count _ c.in_ok-met.was c.walk.ensures.value.1, c.args.body.few, c.count_far.ensures.0)

pub returns : goal.returns
returns c =
    let b = c.args.body in
    let w = c.walk.ensures in
    let o = opcodes_of b.types.now b.rows.now in
    record { collected_for = with_far o b.last b.bytes.now c.args.flags.now _ _ w.value.0 _ c.in_ok-met.was b.few c.requires.1 c.args.lent _ c.count_far.ensures.1; flagged = all_flagged o (readable b.types.now b.last b.bytes.now) c.args.flags.now _ _ _ _ _ w.noted c.requires.1 }
