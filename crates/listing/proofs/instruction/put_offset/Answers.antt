use Rattle.spec_listing.specs.Line.{offset_text}
use Rattle.lists.proofs.Aheads.{as_words, same_ahead}
use Rattle.lists.proofs.Writes.{wrote_none}
use Rattle.lists.specs.Text.{text}
use native.Mathlib.Omega.{arith}
use Rattle.listing.proofs.instruction.put_offset.Goals as goal

pub returns-then-offsets : goal.returns-then-offsets
unfolding offset_text text
returns-then-offsets c = same_ahead (rw c.if-offsets.true) c.put_offset.ensures

pub returns : goal.returns
unfolding offset_text
returns c = same_ahead (rw c.if-offsets.false) (as_words (wrote_none (omega arith) (omega arith)))
