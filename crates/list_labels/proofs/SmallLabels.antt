-- Every label offset of a body is below 2 ^ 31: a target is where it is not negative, and no instruction ends behind the body.
-- Assumes nothing.
use mathlib.Core.Path.{◌≡◌}
use mathlib.Core.Bool.{Bool, true, false}
use mathlib.Core.List.{List, [], ◌∷◌}
use Prim.Native.Nat.{ℕ, ◌+◌, ◌^◌, ◌≤◌}
use native.Mathlib.Omega.{arith}
use borrow.Author.Tests.{lt-ltb, le-ltb}
use lib.Dec.{eqb, ltb}
use lib.ListN.{length, get_or, drop}
use Rattle.lists.specs.Choice.{pick}
use Rattle.lists.proofs.Tests.{by_leb}
use Rattle.spec_sheet.specs.Types.{family_of}
use Rattle.spec_sheet.specs.Row.{length_of}
use Rattle.spec_body.specs.Record.{pairs, record_of}
use Rattle.spec_body.specs.Decode.{row_at, decode_body}
use Rattle.spec_body.specs.Decode.Decoded.{decoded}
use Rattle.spec_body.proofs.DecodeLaws.{Decoding, body_stands}
use Rattle.spec_body.proofs.DecodeLaws.Decoding.{ended, more}
use Rattle.spec_listing.specs.Operand.{target_of}
use Rattle.spec_listing.specs.Labels.{targets}
use Rattle.list_labels.specs.OpcodeRows.{Opcodes, record_labels, row_labels, no_row, targets_by}
use Rattle.list_labels.specs.declared.opcode_rows.Jump.{Jump}
use Rattle.list_labels.specs.declared.opcode_rows.Jump.TheVariants.{NoTarget, Short, Other}
use Rattle.list_labels.specs.declared.opcode_rows.OpcodeRow.{OpcodeRow}
use Rattle.list_labels.specs.InstructionNotes.{labels_in}
use Rattle.list_labels.specs.Parts.{Between}
use Rattle.list_labels.specs.Parts.Between.{none, one}
use Rattle.list_labels.proofs.PartLaws.{between_append}
use Rattle.list_labels.proofs.InstructionLaws.{labels_record}

abbrev Small : List ℕ → Type 0
Small l = Between 0 2147483648 l

where_picked : (p : Bool) {k l : List ℕ} → Small k → Small l → Small (pick p k l)
where_picked true h g = h
where_picked false h g = g

targets_small : (at : ℕ) (codes pairs : List ℕ) → Small (targets at codes pairs)
unfolding targets
targets_small at [] pairs = none
targets_small at (code ∷ codes) pairs = go (eqb (family_of code) 4) (target_of at code (get_or pairs 1 0)) (targets_small at codes (drop 2 pairs))
  where
    go : (p : Bool) (t : ℕ) {rest : List ℕ} → Small rest → Small (pick p (pick (ltb t (2 ^ 31)) (t ∷ rest) rest) rest)
    go false t h = h
    go true t {rest} h =
        by_leb (2 ^ 31) t
        (λ k. rw (le-ltb t (2 ^ 31) k) h)
        (λ k. rw (lt-ltb t (2 ^ 31) k) (one {x = t} (omega arith) k h))

by_jump : (j : Jump) {l : List ℕ} → Small l → Small (targets_by j l)
by_jump NoTarget h = none
by_jump Short h = h
by_jump Other h = h

instruction_small : (row : OpcodeRow) (codes s : List ℕ) (at : ℕ) → at + length_of codes ≤ 65536 → Small (labels_in row codes s at)
unfolding labels_in
instruction_small row codes s at h =
    between_append 0 2147483648 (where_picked row.ends_flow (one {x = at + length_of codes} (omega arith) (omega arith) none) none)
    (by_jump row.jump (targets_small at codes (pairs codes s (at + 1))))

module _ (o : Opcodes) (last : ℕ) (s : List ℕ) where
  all_small : {at : ℕ} {rs : List (List ℕ)} → length s ≤ 65536 → Decoding o.types last s at rs → Small (row_labels o rs)
  unfolding row_labels
  all_small h (ended g) = none
  all_small h (more {at} g l k d) =
      between_append 0 2147483648 {k = record_labels o (record_of (row_at o.types s at) s at)} (rw (labels_record o s at) (instruction_small (get_or o.rows (get_or s at 0) no_row) (row_at o.types s at) s at (omega (arith, h, k)))) (all_small h d)

  pub labels_small : (rs : List (List ℕ)) → length s ≤ 65536 → decode_body o.types last s ≡ decoded rs → Between 0 2147483648 (row_labels o rs)
  labels_small rs h e = all_small h (body_stands o.types last s rs e)
