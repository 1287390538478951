use Rattle.numbers.proofs.WordDigits.{offset_digits}
use Rattle.lists.proofs.Aheads.{same_ahead, as_words}
use Rattle.lists.proofs.Writes.{◌then◌}
use Rattle.numbers.proofs.print_words.put_offset.Goals as goal

pub returns-then-n-lt65536 : goal.returns-then-n-lt65536
returns-then-n-lt65536 c = same_ahead (rw c.offset_word.ensures (offset_digits c.args.n c.if-n-lt65536.true)) c.put_word.ensures

pub returns : goal.returns
returns c = as_words (c.put_hex_lower4-k.ensures then c.put_bytes.ensures)
