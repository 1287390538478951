use Rattle.std.proofs.Common.{◌+◌, ◌-◌, ◌/◌, arith, rules}
use Rattle.list_labels.proofs.CollectLaws.{met_count, few_counted, stored_counted, one_counted, halves_counted, halves_few, not_decoded_lem}
use Rattle.list_labels.specs.OpcodeRows.{opcodes_of}
use Rattle.spec_body.specs.Decode.{decode_body}
use Rattle.list_labels.proofs.collect.+count_far.Goals as goal

pub returns-in_default : goal.returns-in_default
returns-in_default t c =
    let x = c.args in
    let w = c.walk in
    (omega arith, λ rs p. not_decoded_lem (opcodes_of x.body.types.now x.body.rows.now) (decode_body x.body.types.now x.body.last x.body.bytes.now) _ _ w.ensures.value.0 _ c.in_default.is rs p)

pub returns-then-n-le-FAR_SPACE : goal.returns-then-n-le-FAR_SPACE
returns-then-n-le-FAR_SPACE t c =
    let x = c.args in
    let w = c.walk in
    let n = c.count_different.ensures in
    (few_counted _ c.in-Ok.met.far 65536 _ n (omega (arith, met_count _ c.in-Ok.is w.ensures.value.1, x.body.few)), stored_counted (opcodes_of x.body.types.now x.body.rows.now) x.body.last x.body.bytes.now _ _ x.low x.high _ w.ensures.value.0 _ c.in-Ok.is (omega arith) _ _ _ w.ensures.noted (omega (arith, c.if-n-le-FAR_SPACE.true)) (search rules) n)

pub returns-then-high-low-lt2 : goal.returns-then-high-low-lt2
returns-then-high-low-lt2 t c =
    let x = c.args in
    let w = c.walk in
    (omega arith, one_counted (opcodes_of x.body.types.now x.body.rows.now) x.body.last x.body.bytes.now _ _ x.low x.high _ w.ensures.value.0 _ c.in-Ok.is (omega arith) (omega (arith, c.if-n-le-FAR_SPACE.false)) (omega (arith, c.if-high-low-lt2.true, c.requires)))

pub returns : goal.returns
returns t c =
    let x = c.args in
    let w = c.walk in
    let o = opcodes_of x.body.types.now x.body.rows.now in
    let q = c.requires in
    let m = x.low + (x.high - x.low) / 2 in
    let a = c.count_far-front.ensures.1 in
    let b = c.count_far.ensures.1 in
    (halves_few o x.body.last x.body.bytes.now _ _ x.low x.high _ w.ensures.value.0 _ c.in-Ok.is (omega arith) m _ _ (omega arith) (omega (arith, q.1)) a b 65536 (omega (arith, met_count _ c.in-Ok.is w.ensures.value.1, x.body.few)), halves_counted o x.body.last x.body.bytes.now _ _ x.low x.high _ w.ensures.value.0 _ c.in-Ok.is (omega arith) m _ _ (omega arith) (omega (arith, q.1)) a b)
