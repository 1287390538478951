use Rattle.lists.proofs.Aheads.{as_words, same_ahead}
use Rattle.lists.specs.Text.{text}
use borrow.Author.Tests.{eq-eqb, ne_eqb}
use Rattle.listing.proofs.instruction.put_name.Goals as goal

pub returns-then-size-eq0 : goal.returns-then-size-eq0
unfolding text
returns-then-size-eq0 c = same_ahead (rw (eq-eqb _ 0 c.if-size-eq0.true)) (as_words c.put_bytes.ensures)

pub returns : goal.returns
returns c = same_ahead (rw (ne_eqb _ 0 c.if-size-eq0.false)) c.put_part.ensures
