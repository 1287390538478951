-- The loop over a body's instructions. Assumes nothing.
use mathlib.Core.Path.{◌≡◌, refl, ap, sym, ◌∙◌}
use mathlib.Core.Bool.{Bool}
use mathlib.Core.List.{List, [], ◌∷◌}
use Prim.Native.Nat.{ℕ, suc, ◌+◌, ◌-◌, ◌≤◌, ◌<◌}
use native.Mathlib.Nat.{sub-zero}
use native.Mathlib.Omega.{arith}
use lib.ListN.{length, get_or}
use Rattle.spec_sheet.specs.Row.{length_of}
use Rattle.spec_body.specs.Record.{record_of}
use Rattle.spec_body.specs.Decode.{Decoded, prepend, row_at, decode_from, decode_body}
use Rattle.spec_body.specs.Decode.Decoded.{decoded, not_decoded}
use Rattle.spec_body.proofs.DecodeLaws.{at_end, at_beyond, at_cut, at_more}
use Rattle.list_labels.specs.OpcodeRows.{Opcodes, no_row, record_labels, row_labels}
use Rattle.list_labels.specs.Notes.{Notes, note_all}
use Rattle.list_labels.specs.InstructionNotes.{labels_in}
use Rattle.list_labels.specs.Readable.{readable_from, readable}
use Rattle.list_labels.specs.Collecting.{unnoted, notes_after, met_in, walk_of, Noted, walked_count}
use Rattle.answers.specs.declared.refusal.Refusal.{Refusal}
use Rattle.answers.specs.declared.refusal.Refusal.TheVariants.{Beyond, Cut}
use Rattle.std.specs.Prelude.{Result, Ok, Err}
use Rattle.list_labels.specs.declared.collect.Met.{Met}
use Rattle.list_labels.proofs.ReadableLaws.{none_left, none_beyond, none_cut, one_more}
use Rattle.list_labels.proofs.NoteLaws.{all_append, all_none}
use Rattle.list_labels.proofs.InstructionLaws.{labels_record}

-- an instruction more in front
walk_more : (e : Opcodes) (n : Notes) (r : List ℕ) (d : Decoded) → walk_of e n (prepend r d) ≡ walk_of e (note_all n (record_labels e r)) d
unfolding walk_of prepend row_labels
walk_more e n r (decoded rs) = rw (all_append n (record_labels e r) (row_labels e rs))
walk_more e n r (not_decoded x) = refl

notes_more : (e : Opcodes) (n : Notes) (r : List ℕ) (rs : List (List ℕ)) → notes_after e n (r ∷ rs) ≡ notes_after e (note_all n (record_labels e r)) rs
unfolding row_labels
notes_more e n r rs = all_append n (record_labels e r) (row_labels e rs)

notes_none : (e : Opcodes) (n : Notes) → notes_after e n [] ≡ n
unfolding row_labels
notes_none e n = all_none n

-- the instructions in front of `at` are noted, and those from there on complete the walk
pub record Going (e : Opcodes) (last : ℕ) (s : List ℕ) (n₀ n : Notes) (at : ℕ) : Type 0 where
  pub steps : ℕ
  pub below : steps ≤ at
  pub inside : at ≤ length s
  pub same_flags : length n.flags ≡ length n₀.flags
  pub same_stored : length n.stored ≡ length n₀.stored
  pub few : n.near + n.far ≤ at
  pub left : walk_of e n₀ (decode_body e.types last s) ≡ walk_of e n (decode_from (length s - steps) e.types last s at)
  pub noted : notes_after e n₀ (readable e.types last s) ≡ notes_after e n (readable_from (length s - steps) e.types last s at)

pub start : (e : Opcodes) (last : ℕ) (s : List ℕ) (flags : List Bool) (stored : List ℕ) (low high : ℕ) → Going e last s (unnoted flags stored low high) (unnoted flags stored low high) 0
start e last s flags stored low high = record {
  steps = 0;
  below = omega arith;
  inside = omega arith;
  same_flags = refl;
  same_stored = refl;
  few = omega arith;
  left = rw sub-zero;
  noted = rw sub-zero;
}

-- what a walk answers and leaves, however it ends
pub record Ended (e : Opcodes) (last : ℕ) (s : List ℕ) (n₀ : Notes) (r : Result Met Refusal) (flags : List Bool) (stored : List ℕ) : Type 0 where
  pub answered : (r ≡ walk_of e n₀ (decode_body e.types last s)) × (walked_count r ≤ length s)
  pub left_noted : Noted e (readable e.types last s) n₀ flags stored

module _ (e : Opcodes) (last : ℕ) (s : List ℕ) (n₀ n : Notes) (at : ℕ) (g : Going e last s n₀ n at) where
  abbrev Ends : Result Met Refusal → Type 0
  Ends r = Ended e last s n₀ r n.flags n.stored

  ends : (r : Result Met Refusal) → walked_count r ≤ length s → walk_of e n (decode_from (length s - g.steps) e.types last s at) ≡ r
      → readable_from (length s - g.steps) e.types last s at ≡ [] → Ends r
  ends r f q h =
      let z : n ≡ notes_after e n₀ (readable e.types last s) = sym (g.noted ∙ ap (notes_after e n) h ∙ notes_none e n) in
      record {
        answered = (sym (g.left ∙ q), f);
        left_noted = (ap (λ (m : Notes). m.flags) z, ap (λ (m : Notes). m.stored) z);
      }

  -- at the end
  pub ended : length s ≤ at → Ends (Ok (met_in n))
  unfolding walk_of walked_count row_labels
  ended h =
      ends (Ok (met_in n)) (omega (arith, g.few, g.inside))
      (rw (at_end e.types last s (length s - g.steps) at h, all_none n) refl)
      (none_left e.types last s _ at h)

  module _ (h : at < length s) where
    less : length s - g.steps ≡ suc (length s - (g.steps + 1))
    less = omega (arith, g.below)

    -- at an opcode beyond the largest
    pub stopped : last < get_or s at 0 → Ends (Err (Beyond at))
    unfolding walk_of walked_count
    stopped l =
        ends (Err (Beyond at)) (omega arith)
        (rw (less, at_beyond e.types last s (length s - (g.steps + 1)) at h l) refl)
        (none_beyond e.types last s _ at h l)

    module _ (l : get_or s at 0 ≤ last) (size : ℕ) (q : size ≡ length_of (row_at e.types s at)) where
      abbrev next_is : at + size ≡ at + length_of (row_at e.types s at)
      next_is = ap (λ (x : ℕ). at + x) q

      -- at an instruction that is cut
      pub broken : length s - at < size → Ends (Err (Cut at))
      unfolding walk_of walked_count
      broken k =
          ends (Err (Cut at)) (omega arith)
          (rw (less, at_cut e.types last s (length s - (g.steps + 1)) at (at + size) next_is h l (omega arith)) refl)
          (none_cut e.types last s _ at h l (omega (arith, q)))

      pub turn : (n' : Notes) → size ≤ length s - at → length n'.flags ≡ length n.flags → length n'.stored ≡ length n.stored
          → n' ≡ note_all n (labels_in (get_or e.rows (get_or s at 0) no_row) (row_at e.types s at) s at) → n'.near + n'.far ≤ at + size
          → Going e last s n₀ n' (at + size)
      turn n' k u v w f =
          let r = record_of (row_at e.types s at) s at in
          let d = at_more e.types last s (length s - (g.steps + 1)) at (at + size) next_is h l (omega arith) in
          let o = one_more e.types last s (length s - (g.steps + 1)) at h l (omega (arith, q)) in
          let m : note_all n (record_labels e r) ≡ n' = sym (w ∙ rw (labels_record e s at)) in
          record {
            steps = g.steps + 1;
            below = omega (arith, g.below, q);
            inside = omega arith;
            same_flags = u ∙ g.same_flags;
            same_stored = v ∙ g.same_stored;
            few = f;
            left = g.left ∙ rw (less, d) (walk_more e n r (decode_from (length s - (g.steps + 1)) e.types last s (at + size)) ∙ rw m);
            noted = g.noted ∙ rw (less, o) (notes_more e n r _ ∙ rw (m, sym q));
          }
