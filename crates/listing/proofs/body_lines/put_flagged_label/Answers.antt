use Rattle.listing.specs.Parts.{flagged_text}
use Rattle.lists.proofs.Aheads.{as_words, same_ahead}
use Rattle.lists.proofs.Writes.{wrote_none}
use native.Mathlib.Omega.{arith}
use mathlib.Core.Path.{sym}
use Rattle.listing.proofs.body_lines.put_flagged_label.Goals as goal
use Rattle.listing.proofs.body_lines.put_flagged_label.Goals.{else-labels-via-then-labels+else-flags-at, else-labels-via-else-labels}

pub returns-then-flags-at : goal.returns-then-flags-at
unfolding flagged_text
returns-then-flags-at c = same_ahead (sym (rw (c.if-labels.true, c.if-flags-at.true))) c.put_label.ensures

pub returns : goal.returns
unfolding flagged_text
returns c =
    let t = as_words (wrote_none (omega arith) (omega arith)) in
    elim c.else-labels.branch [
      | else-labels-via-then-labels+else-flags-at w ↦ same_ahead (sym (rw (w.if-labels.true, w.if-flags-at.false))) t
      | else-labels-via-else-labels w ↦ same_ahead (sym (rw w.if-labels.false)) t
    ]
