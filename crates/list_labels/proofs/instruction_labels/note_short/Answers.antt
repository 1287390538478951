use Prim.Native.Nat.{◌+◌}
use lib.ListN.{get_or}
use Rattle.list_labels.specs.Notes.{notes_of}
use Rattle.list_labels.proofs.TargetLaws.{short_kept, short_negative}
use Rattle.list_labels.proofs.instruction_labels.note_short.Goals as goal

pub returns-then-x-lt2147483648 : goal.returns-then-x-lt2147483648
returns-then-x-lt2147483648 c =
    let a = c.args in
    short_kept _ a.at (get_or a.s.now (a.at + 1) 0) a.next _ a.short c.short_target-x.ensures _ c.if-x-lt2147483648.true c.note_where.ensures

pub returns : goal.returns
returns c =
    let a = c.args in
    short_negative (notes_of a.flags.now a.stored.now a.counts) a.at (get_or a.s.now (a.at + 1) 0) a.next _ a.short c.short_target-x.ensures c.if-x-lt2147483648.false
