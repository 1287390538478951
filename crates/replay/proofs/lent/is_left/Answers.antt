use Rattle.std.proofs.Common.{◌≡◌, true, sym, ap, ◌∙◌, length, drop}
use lib.ListN.{drop_of_length-le}
use Rattle.lists.specs.Scan.{opens}
use Rattle.lists.proofs.Parts.{tail_part}
use Rattle.replay.specs.Lent.{all_are}
use Rattle.lists.proofs.Links.{opens_starts}
use Rattle.replay.proofs.LentLaws.{left_done}
use Rattle.replay.proofs.lent.is_left.Goals as goal

pub returns-then-number-eq0 : goal.returns-then-number-eq0
returns-then-number-eq0 c =
    let a = c.args in
    let opened : opens a.expected.now a.lent.now ≡ true = opens_starts _ _ ∙ sym c.starts_with.ensures.value ∙ c.if-not-starts_with.false in
    c.all_are.ensures ∙ ap (all_are 0xA5) (tail_part a.lent.now (length a.expected.now)) ∙ left_done a.lent.now a.expected.now a.number opened c.if-number-eq0.true
