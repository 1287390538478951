use native.Mathlib.Omega.{arith}
use mathlib.Core.Path.{sym, ◌∙◌}
use Rattle.list_labels.specs.Notes.{notes_of}
use Rattle.list_labels.proofs.InstructionLaws.{behind_few, jump_noted, short_inside, short_noted, short_few}
use borrow.Author.Rules.{rules}
use Rattle.list_labels.proofs.instruction_labels.note_instruction.Goals as goal

pub note_targets-requires : goal.note_targets-requires
note_targets-requires c =
    let x = c.args in
    let n = notes_of x.flags.now x.stored.now x.counts in
    (search rules, search rules, behind_few x.row x.codes x.s.now x.at x.size n _ c.requires.0 c.note_where-c.ensures c.requires.3)

pub returns-then-is_other : goal.returns-then-is_other
returns-then-is_other c =
    let x = c.args in
    let n = notes_of x.flags.now x.stored.now x.counts in
    let t = c.note_targets.ensures in
    record { result_after = jump_noted x.row x.codes x.s.now x.at x.size n _ c.requires.0 c.note_where-c.ensures c.requires.3 _ (sym c.is_other.ensures ∙ c.if-is_other.true) t.result_after; far_bound = omega (arith, c.requires.0, t.far_bound) }

pub note_short-requires : goal.note_short-requires
note_short-requires c =
    let x = c.args in
    let n = notes_of x.flags.now x.stored.now x.counts in
    let b = c.note_where-c.ensures in
    let i = short_inside x.row x.codes x.s.now x.at x.size n _ c.requires.0 b c.requires.3 c.requires.4 c.requires.1 (sym c.is_other.ensures ∙ c.if-is_other.false) in
    (i.0, λ h. i.1 (sym c.is_short.ensures ∙ h), search rules, omega (arith, behind_few x.row x.codes x.s.now x.at x.size n _ c.requires.0 b c.requires.3))

pub returns : goal.returns
returns c =
    let x = c.args in
    let n = notes_of x.flags.now x.stored.now x.counts in
    let b = c.note_where-c.ensures in
    let t = rw c.is_short.ensures at c.note_short.ensures in
    let j = sym c.is_other.ensures ∙ c.if-is_other.false in
    record { result_after = short_noted x.row x.codes x.s.now x.at x.size n _ c.requires.0 b c.requires.3 c.requires.4 c.requires.1 j _ t; far_bound = short_few x.row x.codes x.s.now x.at x.size n _ c.requires.0 b c.requires.3 c.requires.4 c.requires.1 j _ t }
