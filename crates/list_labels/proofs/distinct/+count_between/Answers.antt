use Rattle.std.proofs.Common.{sym, arith}
use Rattle.list_labels.proofs.CountLaws.{front_between, back_between, counts, counts_most}
use Rattle.list_labels.proofs.PartLaws.{different_few, different_one}
use Rattle.list_labels.proofs.distinct.+count_between.Goals as goal

pub returns-then-len-lt2 : goal.returns-then-len-lt2
returns-then-len-lt2 t c = sym (different_few _ c.if-len-lt2.true)

pub returns-then-high-low-lt2 : goal.returns-then-high-low-lt2
returns-then-high-low-lt2 t c = sym (different_one _ _ (omega arith) c.if-len-lt2.false c.requires.0)

pub count_between-front-requires : goal.count_between-front-requires
count_between-front-requires t c =
    let w = c.part-n in
    (omega arith, (front_between _ _ _ _ _ _ _ w.ensures.1 w.ensures.2 c.requires.0, omega arith, omega arith, omega arith))

pub count_between-requires : goal.count_between-requires
count_between-requires t c =
    let w = c.part-n in
    (omega arith, (back_between _ _ _ _ _ _ _ w.ensures.1 w.ensures.2 _ (omega arith) c.requires.0, omega arith, omega arith, omega arith))

pub overflow_add-result : goal.overflow_add-result
overflow_add-result t c =
    let a = c.args in
    let w = c.part-n in
    let m = counts_most a.low _ a.high _ _ _ _ w.ensures.1 w.ensures.2 _ (omega arith) _ _ c.count_between-front.ensures c.count_between.ensures in
    omega arith

pub returns : goal.returns
returns t c =
    let a = c.args in
    let w = c.part-n in
    counts a.low _ a.high _ _ _ _ w.ensures.1 w.ensures.2 _ (omega arith) _ _ c.count_between-front.ensures c.count_between.ensures
