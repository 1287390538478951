use Rattle.lists.proofs.Aheads.{as_words}
use Rattle.std.proofs.Common.{◌+◌, length, sym, ◌∙◌, arith, leb-true}
use Rattle.numbers.proofs.words.put_word.Goals as goal

pub set_word-requires : goal.set_word-requires
set_word-requires c =
    let a = c.args in
    (c.requires, omega (arith, leb-true (a.at + 0 + 8) (length a.out.now) (sym c.has_room.ensures ∙ c.if-has_room.true)))

pub returns : goal.returns
returns c = as_words c.put_le.ensures
