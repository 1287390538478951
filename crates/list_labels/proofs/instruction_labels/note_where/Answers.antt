use Rattle.list_labels.specs.Notes.{notes_of}
use Rattle.list_labels.proofs.NoteLaws.{byte_pick, marked_near, one_noted, none_noted}
use Rattle.list_labels.proofs.instruction_labels.note_where.Goals as goal

pub returns-then-at-flags : goal.returns-then-at-flags
returns-then-at-flags c =
    let a = c.args in
    rw (c.from.ensures, byte_pick, c.is_new-new.ensures) (marked_near (notes_of a.flags.now a.stored.now a.counts) a.x a.marked c.if-at-flags.true)

pub returns-then-marked : goal.returns-then-marked
returns-then-marked c = one_noted _ _ _ _ c.if-marked.true c.note.ensures

pub returns : goal.returns
returns c = none_noted _ _ _ c.if-marked.false
