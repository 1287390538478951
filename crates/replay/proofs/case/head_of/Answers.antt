use Rattle.replay.proofs.case.head_of.Goals as goal

pub returns : goal.returns
returns c =
    rw (c.number_at.ensures, c.size_at.ensures, c.size_at-2.ensures, c.size_at-3.ensures, c.number_at-2.ensures, c.number_at-3.ensures, c.number_at-4.ensures, c.number_at-5.ensures, c.size_at-4.ensures)
