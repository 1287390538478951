use Rattle.lists.proofs.Aheads.{same_ahead, ◌and_words◌}
use Rattle.numbers.proofs.WordDigits.{bool_pick, signed_text}
use Rattle.numbers.proofs.print_words.put_signed.Goals as goal

pub returns : goal.returns
returns c =
    let a = c.args in
    same_ahead (rw (c.from.ensures, c.magnitude.ensures.0, c.is_negative-negative.ensures, bool_pick) (signed_text a.minus a.n c.requires)) (c.put_word-k.ensures and_words c.put_decimal.ensures)
