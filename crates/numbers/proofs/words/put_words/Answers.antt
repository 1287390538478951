use Rattle.numbers.proofs.WordLaws.{three_parts}
use Rattle.lists.proofs.Aheads.{same_ahead, ◌and_words◌}
use Rattle.numbers.proofs.words.put_words.Goals as goal

pub returns : goal.returns
returns c =
    let a = c.args in
    same_ahead (rw (c.word_size.ensures, c.word_size-one.ensures) (three_parts a.s.now a.at a.n)) (c.put_next-k.ensures and_words c.put_next-m.ensures and_words c.put_rest.ensures)
