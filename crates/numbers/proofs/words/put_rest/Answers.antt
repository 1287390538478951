use Rattle.numbers.proofs.WordLaws.{next_part}
use Rattle.lists.proofs.Aheads.{same_ahead, as_words, ahead_length, ◌and_words◌}
use Rattle.lists.proofs.Writes.{wrote_none}
use Rattle.std.proofs.Common.{◌≡◌, ◌-◌, min, sym, arith}
use Rattle.numbers.proofs.words.put_rest.Goals as goal

pub loop-done-init : goal.loop-done-init
loop-done-init c =
    let a = c.args in
    let z : a.from - a.from ≡ 0 = omega arith in
    (omega arith, omega arith, rw z (as_words (wrote_none (omega arith) (omega arith))))

pub put_next-k-requires : goal.put_next-k-requires
put_next-k-requires c = (omega arith, omega arith)

pub loop-done-smaller : goal.loop-done-smaller
loop-done-smaller c = omega (arith, c.word_size-done.ensures)

pub loop-done-preserved : goal.loop-done-preserved
loop-done-preserved c =
    let l = c.loop-done in
    let a = c.args in
    let w = c.word_size-done.ensures in
    (omega (arith, w), omega (arith, w), same_ahead (rw w (sym (next_part a.s.now a.at a.from l.done (min (a.n - l.done) 8) l.invariant.0))) (l.invariant.2 and_words c.put_next-k.ensures))

pub shape_of-out : goal.shape_of-out
shape_of-out c = ahead_length c.loop-done.invariant.2

pub returns : goal.returns
returns c =
    let e : c.loop-done.done ≡ c.args.n = omega arith in
    rw e at c.loop-done.invariant.2
