use Rattle.numbers.proofs.WordLaws.{front_bytes}
use Rattle.lists.proofs.Aheads.{same_ahead}
use Rattle.std.proofs.Common.{◌+◌, ◌-◌, min, arith}
use Rattle.numbers.proofs.words.put_next.Goals as goal

pub put_word-requires : goal.put_word-requires
put_word-requires c = omega (arith, c.word_size.ensures)

pub returns : goal.returns
returns c =
    let a = c.args in
    let w = c.word_size.ensures in
    let e = front_bytes a.s.now (a.at + a.k) (min (a.n - a.k) 8) (λ i. (c.shared_slice_known-1.given i).fits) (omega arith) (omega arith) in
    same_ahead (rw (c.eight_bytes.ensures.0, w) e) c.put_word.ensures
