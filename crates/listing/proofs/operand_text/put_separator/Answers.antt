use Rattle.spec_numbers.specs.LittleEndian.{le_bytes}
use Rattle.lists.proofs.Aheads.{same_ahead}
use Rattle.lists.specs.Text.{text}
use borrow.Author.Tests.{eq-eqb, ne_eqb}
use Rattle.listing.proofs.operand_text.put_separator.Goals as goal

pub returns-then-i-eq0 : goal.returns-then-i-eq0
unfolding text le_bytes
returns-then-i-eq0 c = same_ahead (rw (eq-eqb _ 0 c.if-i-eq0.true)) c.put_word.ensures

pub returns : goal.returns
unfolding text le_bytes
returns c = same_ahead (rw (ne_eqb _ 0 c.if-i-eq0.false)) c.put_word-2.ensures
