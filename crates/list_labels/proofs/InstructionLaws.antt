-- The label offsets of one instruction. Assumes nothing.
use mathlib.Core.Path.{◌≡◌, refl, ap, sym, ◌∙◌}
use mathlib.Core.Bool.{Bool, true, false}
use mathlib.Core.List.{List, [], ◌∷◌, ◌++◌, append-nil}
use Prim.Native.Nat.{ℕ, ◌+◌, ◌≤◌, ◌<◌}
use native.Mathlib.Omega.{arith}
use lib.Dec.{eqb}
use lib.ListN.{length, get_or}
use borrow.Author.Tests.{eq-eqb, ne_eqb}
use Rattle.lists.specs.Choice.{pick}
use Rattle.lists.proofs.Tests.{by_eqb}
use Rattle.spec_sheet.specs.Types.{width_of}
use Rattle.spec_sheet.specs.Row.{length_of}
use Rattle.spec_body.specs.Record.{pairs, record_of}
use Rattle.spec_body.specs.Decode.{row_at}
use Rattle.spec_listing.specs.Labels.{targets}
use Rattle.list_labels.specs.Notes.{Notes, note_all}
use Rattle.list_labels.specs.OpcodeRows.{Opcodes, RowFits, no_row, is_short_jump, is_other_jump, targets_by, record_labels}
use Rattle.list_labels.specs.declared.opcode_rows.Jump.{Jump}
use Rattle.list_labels.specs.declared.opcode_rows.Jump.TheVariants.{NoTarget, Short, Other}
use Rattle.list_labels.specs.declared.opcode_rows.OpcodeRow.{OpcodeRow}
use Rattle.list_labels.specs.InstructionNotes.{target_in, labels_in}
use Rattle.list_labels.proofs.NoteLaws.{all_append, all_most, all_none}
use Rattle.list_labels.proofs.TargetLaws.{target_most}
use Rattle.list_labels.proofs.OpcodeRowLaws.{short_targets, short_long}

-- the offset behind an instruction that ends the flow
abbrev pub behind : OpcodeRow → ℕ → List ℕ
behind row next = pick row.ends_flow (next ∷ []) []

one_most : (p : Bool) (x : ℕ) → length (pick p (x ∷ []) []) ≤ 1
one_most true x = omega arith
one_most false x = omega arith

-- the ways that targets are found
other_targets : (j : Jump) (t : List ℕ) → is_other_jump j ≡ true → targets_by j t ≡ t
other_targets NoTarget t h = cc h
other_targets Short t h = refl
other_targets Other t h = refl

short_is : (j : Jump) → is_short_jump j ≡ true → j ≡ Short
short_is NoTarget h = cc h
short_is Short h = refl
short_is Other h = cc h

-- that offset was noted
module _ (row : OpcodeRow) (codes s : List ℕ) (at size : ℕ) (n₀ n : Notes) (e : size ≡ length_of codes) (b : n ≡ note_all n₀ (behind row (at + size))) (few : n₀.near + n₀.far ≤ at) where
  pub behind_few : n.near + n.far ≤ at + 1
  behind_few =
      let m : n.near + n.far ≤ n₀.near + n₀.far + length (behind row (at + size)) = rw b (all_most n₀ (behind row (at + size))) in
      omega (arith, m, few, one_most row.ends_flow (at + size))

  abbrev all_targets : List ℕ
  all_targets = targets at codes (pairs codes s (at + 1))

  -- the targets of any jump are noted behind it
  pub jump_noted : (n' : Notes) → is_other_jump row.jump ≡ true → n' ≡ note_all n all_targets → n' ≡ note_all n₀ (labels_in row codes s at)
  unfolding labels_in
  jump_noted n' j q = rw (other_targets row.jump all_targets j, sym e, all_append n₀ (behind row (at + size)) all_targets, sym b) q

  -- so is the target of a short one, and nothing of what is no jump
  module _ (fits : RowFits codes row) (inside : at + size ≤ length s) (j : is_other_jump row.jump ≡ false) where
    pub short_inside : (at < length s) × (is_short_jump row.jump ≡ true → at + 1 < length s)
    short_inside = (omega (arith, e), λ k. omega (arith, e, short_long codes (fits.short (short_is row.jump k))))

    module _ (n' : Notes) (q : n' ≡ note_all n (pick (is_short_jump row.jump) (target_in at 9 (get_or s (at + 1) 0)) [])) where
      pub short_noted : n' ≡ note_all n₀ (labels_in row codes s at)
      unfolding labels_in
      short_noted = go row.jump refl
        where
          go : (k : Jump) → row.jump ≡ k → n' ≡ note_all n₀ (behind row (at + length_of codes) ++ targets_by row.jump all_targets)
          go NoTarget h = rw (h, append-nil (behind row (at + length_of codes)), sym e, sym b) ((rw h at q) ∙ all_none n)
          go Short h = rw (
            h,
            sym e,
            all_append n₀ (behind row (at + size)) all_targets,
            sym b,
            short_targets at codes s (fits.short h) (rw e at inside),
          ) (rw h at q)
          go Other h = cc (sym j ∙ ap is_other_jump h)

      pub short_few : n'.near + n'.far ≤ at + size
      unfolding width_of
      short_few = go row.jump refl
        where
          m : n'.near + n'.far ≤ n.near + n.far + length (pick (is_short_jump row.jump) (target_in at 9 (get_or s (at + 1) 0)) [])
          m = rw q (all_most n _)

          go : (k : Jump) → row.jump ≡ k → n'.near + n'.far ≤ at + size
          go NoTarget h = omega (arith, rw h at m, behind_few, e)
          go Short h =
              let t : length (target_in at 9 (get_or s (at + 1) 0)) ≤ 1 = target_most at 9 (get_or s (at + 1) 0) in
              omega (arith, rw h at m, behind_few, e, short_long codes (fits.short h))
          go Other h = cc (sym j ∙ ap is_other_jump h)

-- what an opcode's row says of a record
pub labels_record : (o : Opcodes) (s : List ℕ) (at : ℕ)
    → record_labels o (record_of (row_at o.types s at) s at) ≡ labels_in (get_or o.rows (get_or s at 0) no_row) (row_at o.types s at) s at
unfolding record_labels labels_in
labels_record o s at = refl
