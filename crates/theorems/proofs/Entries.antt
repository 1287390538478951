-- Assembling a listing needs no more label entries than the listing needed. Assumes nothing.
use mathlib.Core.Path.{◌≡◌, refl, ap, ◌∙◌}
use mathlib.Core.Bool.{Bool, true, false}
use mathlib.Core.List.{List, [], ◌∷◌}
use Prim.Native.Nat.{ℕ, suc, ◌+◌, ◌≤◌, ◌<◌}
use native.Mathlib.Omega.{arith}
use lib.Dec.{leb}
use lib.ListN.{length, get_or}
use borrow.Author.Tests.{le-leb, lt-leb, leb-true}
use Rattle.lists.specs.Choice.{pick}
use Rattle.lists.specs.Scan.{Bytes, all}
use Rattle.lists.proofs.Tests.{by_test}
use Rattle.spec_numbers.specs.Print.{decimal}
use Rattle.spec_sheet.specs.Sheet.{Sheet, sheet_at, type_rows}
use Rattle.spec_sheet.specs.Sheet.SheetRead.{sheet}
use Rattle.spec_sheet.specs.Row.{length_of}
use Rattle.spec_body.specs.Record.{record_of, offset_of}
use Rattle.spec_body.specs.Decode.{row_at}
use Rattle.spec_body.proofs.DecodeLaws.{Decoding}
use Rattle.spec_body.proofs.DecodeLaws.Decoding.{ended, more}
use Rattle.spec_body.proofs.RowLaws.{GoodRows}
use Rattle.spec_inputs.specs.Context.{Context}
use Rattle.spec_listing.specs.Labels.{among, different}
use Rattle.spec_inputs.specs.Inputs.{context_of}
use Rattle.spec_hasm.specs.Assemble.{Code, LabelLine, program_from, codes_from, size_in, holding, labels_from}
use Rattle.theorems.specs.Premises.{good_record, good_records}
use Rattle.theorems.proofs.PremiseLaws.{records_first, records_rest}
use Rattle.theorems.proofs.ListedLines.{line_of, labelled_lines, listed_lines}
use Rattle.theorems.proofs.Counts.{passing, passing_all, passing_most, passing_more}
use Rattle.theorems.proofs.Codes.{code_of, codes_label, its_code}

-- how many instructions have a label
unfoldable pub labelled : List ℕ → List (List ℕ) → ℕ
labelled labels [] = 0
labelled labels (r ∷ rs) = pick (among (offset_of r) labels) (suc (labelled labels rs)) (labelled labels rs)

-- they start at different offsets, none in front of the first
labelled_from : (types : List (List ℕ)) (last : ℕ) (s labels : List ℕ) {at : ℕ} {rs : List (List ℕ)} → Decoding types last s at rs → labelled labels rs ≤ passing (leb at) labels
unfolding labelled
labelled_from types last s labels (ended h) = omega arith
labelled_from types last s labels {at} (more {rs = rs} h l k d) =
    let next = at + length_of (row_at types s at) in
    let rest = labelled_from types last s labels d in
    let wider : (y : ℕ) → leb next y ≡ true → leb at y ≡ true = λ y e. le-leb at y (omega (arith, leb-true next y e)) in
    by_test (among at labels)
    (λ e. rw e (omega (arith, rest, passing_more (leb next) (leb at) wider at (lt-leb next at (omega arith)) (le-leb at at (omega arith)) labels e)))
    (λ e. rw e (omega (arith, rest, passing_most (leb next) (leb at) wider labels)))

pub labelled_most : (types : List (List ℕ)) (last : ℕ) (s labels : List ℕ) {at : ℕ} {rs : List (List ℕ)} → Decoding types last s at rs → labelled labels rs ≤ different labels
labelled_most types last s labels {at} d =
    omega (arith, labelled_from types last s labels d, passing_most (leb at) (λ y. true) (λ y e. refl) labels, passing_all labels)

-- the labels of codes with one in front
module _ (e : Context) (at n : ℕ) (name : List ℕ) (ps : List (List ℕ)) (cs : List Code) where
  labels_none : length (labels_from e at (code_of n [] name ps ∷ cs)) ≡ length (labels_from e (at + size_in e (code_of n [] name ps)) cs)
  unfolding labels_from holding
  labels_none = refl

  labels_called : (l : LabelLine) (ws : List LabelLine) → length (labels_from e at (code_of n (l ∷ ws) name ps ∷ cs)) ≡ suc (length (labels_from e (at + size_in e (code_of n (l ∷ ws) name ps)) cs))
  unfolding labels_from holding
  labels_called l ws = refl

module _ (sheetText : List ℕ) (sh : Sheet) (c : ℕ) (read : sheet_at sheetText 0 ≡ sheet sh c) (bytes ends : List ℕ) (s : List ℕ) (b : Bytes s) (short : length s ≤ 65536)
    (last : ℕ) (small : last ≤ 255) (rows : GoodRows (type_rows sh.opcodes)) (places : List ℕ) (low : all (λ x. leb x 65536) places ≡ true) where
  abbrev context : Context
  context = context_of sheetText sh.opcodes bytes ends

  module _ (at : ℕ) (inside : at < length s) (known : get_or s at 0 ≤ last) (whole : at + length_of (row_at (type_rows sh.opcodes) s at) ≤ length s)
      (good : good_record context places (record_of (row_at (type_rows sh.opcodes) s at) s at) ≡ true) where
    abbrev its : List ℕ
    its = record_of (row_at (type_rows sh.opcodes) s at) s at

    -- an instruction's line, and one behind its label's
    head_entries : (t : Bool) (ls : List (List ℕ)) (k : ℕ) → ((m o : ℕ) → length (labels_from context o (codes_from context m [] ls)) ≡ k)
        → (n o : ℕ) → length (labels_from context o (codes_from context n [] (labelled_lines t at (line_of context its ∷ ls)))) ≡ pick t (suc k) k
    unfolding labelled_lines
    head_entries true ls k h n o =
        rw (codes_label context n [] at (line_of context its ∷ ls), its_code sheetText sh c read bytes ends s b short last small rows places low at inside known whole good (suc n) (record { line = n; text = 76 ∷ decimal at } ∷ []) ls)
        (labels_called context o _ _ _ _ _ [] ∙ ap suc (h _ _))
    head_entries false ls k h n o =
        rw (its_code sheetText sh c read bytes ends s b short last small rows places low at inside known whole good n [] ls) (labels_none context o _ _ _ _ ∙ h _ _)

  -- each label line is taken by the instruction behind it
  pub entries_labelled : (labels : List ℕ) {at : ℕ} {rs : List (List ℕ)} → Decoding (type_rows sh.opcodes) last s at rs → good_records context places rs ≡ true
      → (n o : ℕ) → length (labels_from context o (codes_from context n [] (listed_lines context labels rs))) ≡ labelled labels rs
  unfolding listed_lines labelled program_from labels_from
  entries_labelled labels (ended h) g n o = refl
  entries_labelled labels {at} (more {rs = rs} h l k d) g n o =
      let r = record_of (row_at (type_rows sh.opcodes) s at) s at in
      head_entries at h l k (records_first context places r rs g) (among at labels) (listed_lines context labels rs) (labelled labels rs) (λ m p. entries_labelled labels d (records_rest context places r rs g) m p) n o
