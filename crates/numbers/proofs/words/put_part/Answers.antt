use Rattle.lists.proofs.Aheads.{as_words}
use Rattle.lists.proofs.Writes.{same_piece}
use Rattle.std.proofs.Common.{◌+◌, length, sym, ◌∙◌, leb-true}
use Rattle.numbers.proofs.words.put_part.Goals as goal

pub put_words-requires : goal.put_words-requires
put_words-requires c =
    let a = c.args in
    leb-true (a.at + a.n + 8) (length a.s.now) (sym c.has_room.ensures ∙ c.if-has_room.true)

pub returns : goal.returns
returns c = as_words (same_piece c.part_of-rest.ensures c.put_bytes.ensures)
