use Rattle.spec_listing.specs.Listing.{label_line}
use Rattle.spec_numbers.specs.LittleEndian.{le_bytes}
use Rattle.lists.proofs.Aheads.{as_words, ◌and_words◌}
use Rattle.lists.specs.Text.{text}
use native.Mathlib.Omega.{arith}
use Rattle.listing.proofs.body_lines.put_label.Goals as goal

pub put_decimal-c-requires : goal.put_decimal-c-requires
put_decimal-c-requires c = omega (arith, c.requires)

pub returns : goal.returns
unfolding label_line text le_bytes
returns c = as_words c.put_bytes-a.ensures and_words c.put_word-b.ensures and_words c.put_decimal-c.ensures and_words c.put_word.ensures
