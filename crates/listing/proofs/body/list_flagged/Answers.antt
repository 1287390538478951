use Rattle.std.proofs.lemmas.Result.{err_from_is_err_and}
use Rattle.std.specs.Prelude.{Err}
use lib.ListN.{get_or}
use Prim.Native.Nat.{ℕ, ◌<◌}
use mathlib.Core.Path.{ap, ◌∙◌}
use Rattle.listing.specs.Listers.{context_by}
use Rattle.listing.specs.Parts.{options_of}
use Rattle.listing.proofs.BodyLaws.{was_entries, was_refused, flags_say, decodes, all_listed, one_long, not_decoded_lem}
use native.Mathlib.Omega.{arith}
use Rattle.listing.proofs.body.list_flagged.Goals as goal

pub returns-in_err-n : goal.returns-in_err-n
returns-in_err-n c =
    let x = c.args in
    let l = x.lister.now in
    let p = err_from_is_err_and c.from_residual.result c.from_residual.ensures.1 in
    not_decoded_lem (options_of l.options) (context_by l) _ _ _ _ _ _ _ (was_refused (context_by l) l.last l.rows.now x.s.now c.counted_lent-lent.result c.collect_label_offsets.ensures.collected_for _ c.in_err-n.was) (p.1 ∙ ap Err p.2)

pub list_lines-requires : goal.list_lines-requires
list_lines-requires c =
    let x = c.args in
    let l = x.lister.now in
    let w = c.collect_label_offsets in
    let b : ((i : ℕ) → get_or x.s.now i 0 < 256) = λ i. (c.type_inv.s i).fits in
    let n = was_entries (context_by l) l.last l.rows.now x.s.now c.counted_lent-lent.result w.ensures.collected_for _ l.made b c.in_ok-n.was in
    record { decodes = decodes _ _ _ (context_by l) c.counted_lent-lent.result _ n; flagged = flags_say (context_by l) l.last l.rows.now x.s.now w.new.flags c.counted_lent-lent.result _ l.made b n w.ensures.flagged; s_in_bounds = (omega (arith, w.auto.flags, c.requires.s_in_bounds.0), omega (arith, c.requires.s_in_bounds.0, c.requires.s_in_bounds.1), c.requires.s_in_bounds.2) }

pub returns-in_err-next : goal.returns-in_err-next
returns-in_err-next c =
    let x = c.args in
    let l = x.lister.now in
    let b : ((i : ℕ) → get_or x.s.now i 0 < 256) = λ i. (c.shared_slice_known-1.given i).fits in
    let n = was_entries (context_by l) l.last l.rows.now x.s.now c.counted_lent-lent.result c.collect_label_offsets.ensures.collected_for _ l.made b c.in_ok-n.was in
    let p = err_from_is_err_and c.from_residual-in_err-next.result c.from_residual-in_err-next.ensures.1 in
    one_long (options_of l.options) (context_by l) _ _ _ _ _ _ c.counted_lent-lent.result _ _ n c.list_lines.ensures c.in_err-next.was (p.1 ∙ ap Err p.2)

pub returns : goal.returns
returns c =
    let x = c.args in
    let l = x.lister.now in
    let w = c.collect_label_offsets in
    let b : ((i : ℕ) → get_or x.s.now i 0 < 256) = λ i. (c.shared_slice_known-1.given i).fits in
    let n = was_entries (context_by l) l.last l.rows.now x.s.now c.counted_lent-lent.result w.ensures.collected_for _ l.made b c.in_ok-n.was in
    all_listed (options_of l.options) (context_by l) _ _ _ _ _ _ c.counted_lent-lent.result _ _ _ c.counted_lent-lent.ensures n c.entries_for.ensures c.list_lines.ensures c.in_ok-next.was
