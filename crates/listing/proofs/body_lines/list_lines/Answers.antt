use Rattle.listing.proofs.LinesLoop.{given, records_are, start, inside, known, roomy, stopped, turn, finished, rows_are, words_rise, fits_next, less_next}
use Rattle.listing.specs.Parts.Lined.{all, over}
use Rattle.lists.proofs.Aheads.{as_words, ◌and_words◌}
use Rattle.lists.proofs.Writes.{kept_length}
use native.Mathlib.Numerals.{unary_clauses}
use native.Mathlib.Omega.{arith}
use mathlib.Core.Path.{refl, ◌∙◌}
use lib.ListN.{get_or}
use Prim.Native.Nat.{◌<◌}
use borrow.Author.Rules.{rules}
use Rattle.listing.proofs.body_lines.list_lines.Goals as goal

pub loop-at-init : goal.loop-at-init
loop-at-init c = start _ (records_are _ _ _ c.requires.decodes) (omega arith) (omega arith) (search rules)

pub make_room-gathered-requires : goal.make_room-gathered-requires
make_room-gathered-requires c = omega (arith, c.loop-at.invariant.held, c.loop-at.invariant.size)

pub put_flagged_label-a-requires : goal.put_flagged_label-a-requires
put_flagged_label-a-requires c = (omega (arith, c.requires.s_in_bounds.0, c.loop-at-test.true), omega (arith, c.requires.s_in_bounds.1, c.loop-at-test.true))

pub put_instruction-c-requires : goal.put_instruction-c-requires
put_instruction-c-requires c = (inside c.loop-at.invariant c.loop-at-test.true, c.requires.s_in_bounds.1)

pub overflow_sub-c : goal.overflow_sub-c
overflow_sub-c c = words_rise (as_words c.put_bytes-b.ensures and_words c.put_instruction-c.ensures) (omega arith)

pub shape_of-out-then-c-a-gt-LINE_LIMIT : goal.shape_of-out-then-c-a-gt-LINE_LIMIT
shape_of-out-then-c-a-gt-LINE_LIMIT c = (roomy c.loop-at.invariant c.make_room-gathered.ensures).1.writing.same_size

pub returns-then-c-a-gt-LINE_LIMIT : goal.returns-then-c-a-gt-LINE_LIMIT
returns-then-c-a-gt-LINE_LIMIT c =
    let room = roomy c.loop-at.invariant c.make_room-gathered.ensures in
    over _ (stopped room.1 (given _ c.requires.flagged c.requires.s_in_bounds) room.0 (record { b₁ = _; label_put = c.put_flagged_label-a.ensures; b₂ = _; b = _; indent_put = c.put_bytes-b.ensures; text_put = c.put_instruction-c.ensures }) c.loop-at-test.true c.if-c-a-gt-LINE_LIMIT.true) refl

pub overflow_add-at : goal.overflow_add-at
overflow_add-at c =
    let l = c.loop-at in
    let h = c.loop-at-test.true in
    let q = c.requires in
    let b : get_or c.args.s.now l.at 0 < 256 = search rules in
    let z = c.byte_index-size.ensures ∙ (rows_are c.args.lister.now _ b (known l.invariant h)).size in
    record { fits = fits_next _ _ _ (rw z (inside l.invariant h)) q.s_in_bounds.1 }

pub loop-at-smaller : goal.loop-at-smaller
loop-at-smaller c =
    let l = c.loop-at in
    let h = c.loop-at-test.true in
    let b : get_or c.args.s.now l.at 0 < 256 = search rules in
    let z = c.byte_index-size.ensures ∙ (rows_are c.args.lister.now _ b (known l.invariant h)).size in
    less_next _ _ _ h (rw z (omega arith))

pub loop-at-preserved : goal.loop-at-preserved
loop-at-preserved c =
    let l = c.loop-at in
    let h = c.loop-at-test.true in
    let q = c.requires in
    let b : get_or c.args.s.now l.at 0 < 256 = search rules in
    let z = c.byte_index-size.ensures ∙ (rows_are c.args.lister.now _ b (known l.invariant h)).size in
    let room = roomy l.invariant c.make_room-gathered.ensures in
    turn room.1 (given _ q.flagged q.s_in_bounds) room.0 (record { b₁ = _; label_put = c.put_flagged_label-a.ensures; b₂ = _; b = _; indent_put = c.put_bytes-b.ensures; text_put = c.put_instruction-c.ensures }) h c.if-c-a-gt-LINE_LIMIT.false c.put_byte-n.ensures z

pub shape_of-out : goal.shape_of-out
shape_of-out c = kept_length c.put_bytes.ensures ∙ c.loop-at.invariant.writing.same_size

pub returns : goal.returns
returns c =
    let f = finished c.loop-at.invariant c.loop-at-test.false (simp unary_clauses at c.put_bytes.ensures) in
    all _ f.0 refl f.1
