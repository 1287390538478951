-- What the rows of opcodes say. Assumes nothing.
use mathlib.Core.Path.{◌≡◌, refl, sym, ◌∙◌}
use mathlib.Core.Bool.{Bool, true, false, not, ◌||◌}
use mathlib.Core.List.{List, [], ◌∷◌, ◌++◌, append-nil}
use Prim.Native.Nat.{ℕ, ◌+◌, ◌≤◌, ◌<◌}
use native.Mathlib.Numerals.{add-one}
use native.Mathlib.Omega.{arith}
use borrow.Author.Tests.{eq-eqb, ne_eqb, eqb-true}
use lib.Dec.{eqb}
use lib.ListN.{length, get_or, set, drop, length-set, drop_of_length-le}
use lib.Seq.{drop-cons}
use Rattle.lists.specs.Choice.{pick, both, either}
use Rattle.lists.proofs.Tests.{by_eqb, both_left, both_right, not-true}
use Rattle.spec_sheet.specs.Line.{jump_mark, name_start, name_size}
use Rattle.lists.specs.Scan.{part}
use Rattle.spec_numbers.specs.LittleEndian.{le}
use Rattle.spec_sheet.specs.Types.{family_of, width_of, kind_of}
use Rattle.spec_sheet.specs.Row.{sum_by, length_of}
use Rattle.spec_body.specs.Record.{record_of, offset_of, opcode_of, pairs, pairs_of}
use Rattle.spec_body.specs.Decode.{row_at, decode_body}
use Rattle.spec_body.specs.Decode.Decoded.{decoded}
use Rattle.spec_body.proofs.DecodeLaws.{Decoding, body_stands}
use Rattle.spec_body.proofs.DecodeLaws.Decoding.{ended, more}
use Rattle.spec_inputs.specs.Context.{Context, name_of, is_jump}
use Rattle.spec_listing.specs.Labels.{ends_flow, targets, labels_of, label_offsets}
use Rattle.list_labels.specs.FlowNames.{name_shown}
use Rattle.list_labels.specs.declared.opcode_rows.Jump.TheVariants.{NoTarget, Short, Other}
use Rattle.list_labels.specs.declared.opcode_rows.OpcodeRow.{OpcodeRow}
use Rattle.list_labels.specs.OpcodeRows.{has_addr, is_short, targets_by, labels_by, row_in, RowFits, no_row, opcode_row, OpcodeRows, RowsFit, opcodes_of, record_labels, row_labels}
use Rattle.list_labels.specs.InstructionNotes.{target_in}
use Rattle.list_labels.proofs.TargetLaws.{targets_first}
use Rattle.numbers.proofs.ByteSums.{le_one}
use lib.Seq.{get_or-set_same, get_or-set_other}

-- type codes, where none of those in front of i is an Addr
module _ (codes : List ℕ) (i : ℕ) {b : Bool} (g : b ≡ has_addr (drop i codes)) where
  module _ (h : i < length codes) where
    here : b ≡ (eqb (family_of (get_or codes i 0)) 4 || has_addr (drop (i + 1) codes))
    here = g ∙ rw (drop-cons codes i 0 h, add-one i)

    pub addr_here : family_of (get_or codes i 0) ≡ 4 → b ≡ true
    addr_here e = here ∙ rw (eq-eqb (family_of (get_or codes i 0)) 4 e)

    pub addr_further : (family_of (get_or codes i 0) ≡ 4 → ⊥) → b ≡ has_addr (drop (i + 1) codes)
    addr_further e = here ∙ rw (ne_eqb (family_of (get_or codes i 0)) 4 e)

  pub addr_none : length codes ≤ i → b ≡ false
  addr_none h = g ∙ rw (drop_of_length-le codes h)

-- the rows of the opcodes below n are made
pub record Made (sheet : List ℕ) (types infos : List (List ℕ)) (rows : List OpcodeRow) (n : ℕ) : Type 0 where
  pub size : length rows ≡ 256
  pub made : (o : ℕ) → o < n → get_or rows o no_row ≡ opcode_row sheet (get_or types o []) (get_or infos o [])

module _ {sheet : List ℕ} {types infos : List (List ℕ)} {rows : List OpcodeRow} {n : ℕ} (g : Made sheet types infos rows n) where
  pub one_more : (row : OpcodeRow) → n < 256 → row ≡ opcode_row sheet (get_or types n []) (get_or infos n []) → Made sheet types infos (set rows n row) (n + 1)
  one_more row h e = record {
    size = length-set rows n row ∙ g.size;
    made = λ o l.
        by_eqb o n
        (λ q. rw (q, get_or-set_same rows n row no_row (omega (arith, g.size))) e)
        (λ q. rw (get_or-set_other rows n o row no_row q) (g.made o (omega (arith, q))));
  }

  -- a table of all rows up to the largest opcode
  pub rows_made : (last : ℕ) → ((o : ℕ) → o < 256 → o ≤ last → o < n) → OpcodeRows sheet types infos last rows
  rows_made last h o l k = g.made o (h o l k)

-- what a row that three bytes hold says of labels, and whether it fits
in_bytes : (p q : Bool) (l : List ℕ) → targets_by (pick p NoTarget (pick q Short Other)) l ≡ pick p [] l
in_bytes true q l = refl
in_bytes false true l = refl
in_bytes false false l = refl

pub bytes_labels : (bytes targets : List ℕ) (next : ℕ) → labels_by (row_in bytes) next targets ≡ pick (eqb (get_or bytes 1 0) 1) (next ∷ []) [] ++ pick (eqb (get_or bytes 2 0) 0) [] targets
bytes_labels bytes targets next = rw (in_bytes (eqb (get_or bytes 2 0) 0) (eqb (get_or bytes 2 0) 1) targets)

short_in : (p q : Bool) → pick p NoTarget (pick q Short Other) ≡ Short → q ≡ true
short_in true q e = cc e
short_in false true e = refl
short_in false false e = cc e

pub bytes_fit : (codes bytes : List ℕ) → get_or bytes 0 0 ≡ length_of codes → (get_or bytes 2 0 ≡ 1 → is_short codes ≡ true) → RowFits codes (row_in bytes)
bytes_fit codes bytes l s = record { size = l; short = λ e. s (eqb-true (get_or bytes 2 0) 1 (short_in (eqb (get_or bytes 2 0) 0) (eqb (get_or bytes 2 0) 1) e)) }

short_kind : (p q : Bool) → pick p (pick q Short Other) NoTarget ≡ Short → q ≡ true
short_kind true true e = refl
short_kind true false e = cc e
short_kind false q e = cc e

pub rows_fit : (sheet : List ℕ) (types infos : List (List ℕ)) (last : ℕ) (rows : List OpcodeRow) → OpcodeRows sheet types infos last rows → RowsFit types last rows
rows_fit sheet types infos last rows h o l k =
    let codes = get_or types o [] in
    record {
      size = rw (h o l k);
      short = λ e. short_kind (both (eqb (jump_mark (get_or infos o [])) 1) (has_addr codes)) (is_short codes) (rw (h o l k) at e);
    }

-- without an Addr there are no targets
no_targets : (at : ℕ) (codes pairs : List ℕ) → has_addr codes ≡ false → targets at codes pairs ≡ []
unfolding targets
no_targets at [] pairs h = refl
no_targets at (c ∷ codes) pairs h =
    by_eqb (family_of c) 4
    (λ e. absurd (let z : true ≡ false = rw (eq-eqb (family_of c) 4 e) at h in no z))
    (λ e. rw (ne_eqb (family_of c) 4 e) (no_targets at codes (drop 2 pairs) (rw (ne_eqb (family_of c) 4 e) at h)))
  where
    no : true ≡ false → ⊥
    no q = let z : ◌≡◌ {A = ℕ} 0 1 = cc q in omega arith

-- a short jump has two bytes at least
pub short_long : (codes : List ℕ) → is_short codes ≡ true → 2 ≤ length_of codes
unfolding is_short sum_by width_of
short_long [] e = absurd (let z : ◌≡◌ {A = ℕ} 0 1 = cc e in omega arith)
short_long (c ∷ codes) e =
    let q : c ≡ 9 = eqb-true c 9 (both_left (eqb c 9) (not (has_addr codes)) e) in
    rw q (omega arith)

-- a short jump's one target is that of the byte behind its opcode
pub short_targets : (at : ℕ) (codes s : List ℕ) → is_short codes ≡ true → at + length_of codes ≤ length s → targets at codes (pairs codes s (at + 1)) ≡ target_in at 9 (get_or s (at + 1) 0)
unfolding is_short pairs sum_by width_of
short_targets at [] s e h = absurd (let z : ◌≡◌ {A = ℕ} 0 1 = cc e in omega arith)
short_targets at (c ∷ codes) s e h =
    let q : c ≡ 9 = eqb-true c 9 (both_left (eqb c 9) (not (has_addr codes)) e) in
    let none = no_targets at codes (pairs codes s (at + 1 + width_of c)) (not-true (has_addr codes) (both_right (eqb c 9) (not (has_addr codes)) e)) in
    targets_first at c (le (part s (at + 1) (width_of c))) (kind_of c) codes (pairs codes s (at + 1 + width_of c))
    ∙ rw (none, append-nil (target_in at c (le (part s (at + 1) (width_of c)))), q, le_one s (at + 1) (omega (arith, rw q at h)))

-- what a row says of the targets
jump_targets : (m p q : Bool) (l : List ℕ) → (p ≡ false → l ≡ []) → targets_by (pick (both m p) (pick q Short Other) NoTarget) l ≡ pick m l []
jump_targets true true true l h = refl
jump_targets true true false l h = refl
jump_targets true false q l h = sym (h refl)
jump_targets false p q l h = refl

-- a record's labels by its opcode's row are those of the definition
module _ (e : Context) (last : ℕ) (rows : List OpcodeRow) (g : OpcodeRows e.sheet e.types e.infos last rows) where
  same_record : (r : List ℕ) → opcode_of r < 256 → opcode_of r ≤ last → record_labels (opcodes_of e.types rows) r ≡ labels_of e r
  unfolding record_labels labels_of name_of is_jump
  same_record r l k =
      let codes = get_or e.types (opcode_of r) [] in
      let info = get_or e.infos (opcode_of r) [] in
      let jump = eqb (jump_mark info) 1 in
      rw (
        g (opcode_of r) l k,
        jump_targets jump (has_addr codes) (is_short codes) (targets (offset_of r) codes (pairs_of r)) (no_targets (offset_of r) codes (pairs_of r)),
      )

  same_all : (s : List ℕ) {at : ℕ} {rs : List (List ℕ)} → ((i : ℕ) → get_or s i 0 < 256) → Decoding e.types last s at rs → row_labels (opcodes_of e.types rows) rs ≡ label_offsets e rs
  unfolding row_labels label_offsets
  same_all s h (ended q) = refl
  same_all s h (more {at} q l k d) = rw (same_record (record_of (row_at e.types s at) s at) (h at) l, same_all s h d)

  pub same_labels : (s : List ℕ) (rs : List (List ℕ)) → ((i : ℕ) → get_or s i 0 < 256) → decode_body e.types last s ≡ decoded rs → row_labels (opcodes_of e.types rows) rs ≡ label_offsets e rs
  same_labels s rs h d = same_all s h (body_stands e.types last s rs d)
