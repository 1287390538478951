-- The circle: the default listing of a body, assembled under the same sheet and strings, is the body. Assumes nothing.
use mathlib.Core.Path.{◌≡◌, refl, ap, sym, ◌∙◌}
use mathlib.Core.Bool.{true, false}
use mathlib.Core.List.{List, [], ◌∷◌}
use Prim.Native.Nat.{ℕ, ◌≤◌}
use native.Mathlib.Omega.{arith}
use lib.Dec.{leb}
use lib.ListN.{length}
use borrow.Author.Tests.{le-ltb, le-leb, leb-true}
use Rattle.lists.specs.Scan.{Bytes, all}
use Rattle.lists.specs.Found.{Found}
use Rattle.lists.specs.Found.Found.{found, missing}
use Rattle.lists.proofs.Scans.{all_weaken}
use Rattle.spec_sheet.specs.Sheet.{Sheet, sheet_of, type_rows, largest}
use Rattle.spec_sheet.specs.Sheet.SheetRead.{sheet}
use Rattle.spec_sheet.proofs.SheetLaws.{whole_sheet}
use Rattle.spec_strings.specs.Table.{is_too_large, fault}
use Rattle.spec_body.specs.Decode.{decode_body}
use Rattle.spec_body.specs.Decode.Decoded.{decoded}
use Rattle.spec_body.specs.Starts.{places_of}
use Rattle.limits.specs.Limits.{body_limit, text_limit}
use Rattle.spec_body.proofs.DecodeLaws.{Decoding, body_stands}
use Rattle.spec_body.proofs.SheetTables.{good_sheet}
use Rattle.spec_inputs.specs.Context.{Context, name_of}
use Rattle.spec_listing.specs.Labels.{label_offsets}
use Rattle.spec_listing.specs.Listing as listing
use Rattle.spec_listing.specs.Listing.{long_line, unless_long, list_decoded}
use Rattle.spec_listing.specs.Listing.Listed.{listed}
use Rattle.spec_inputs.specs.Inputs.{unless_fault, under_table, context_of, under_context, under_inputs}
use Rattle.spec_listing.proofs.LineNames.{ListedName, listed_name}
use Rattle.spec_hasm.specs.Text.{lines_of}
use Rattle.spec_hasm.specs.Assemble.{Code, codes_from, assemble_codes, assemble_text, assemble_entries}
use Rattle.spec_hasm.specs.Assemble.Assembled.{assembled}
use Rattle.spec_hasm.specs.Operation.{assemble_outcome, assemble}
use Rattle.theorems.specs.Premises.{default, round_trips}
use Rattle.theorems.proofs.PremiseLaws.{places_most}
use Rattle.theorems.proofs.ListedLines.{listed_lines, listing_lines, lines_good}
use Rattle.theorems.proofs.Codes.{Back, codes_back}
use Rattle.theorems.proofs.Entries.{labelled_most, entries_labelled}
use Rattle.answers.specs.Outcome.{produced, measured}

-- what an accepted listing is
record Accepted (f : Found) (u t : List ℕ) (k n : ℕ) : Type 0 where
  short : f ≡ missing
  is_text : u ≡ t
  are_entries : k ≡ n

accepted : (f : Found) (u t : List ℕ) (k n : ℕ) → unless_long f (listed u k) ≡ listed t n → Accepted f u t k n
unfolding unless_long
accepted (found at) u t k n e = absurd (let z : ◌≡◌ {A = ℕ} 0 1 = cc e in omega arith)
accepted missing u t k n e = record { short = refl; is_text = cc e; are_entries = cc e }

-- codes that round-trip are assembled to the whole body
codes_assembled : (e : Context) (s : List ℕ) (cs : List Code) → Back e s 0 cs → assemble_codes e cs ≡ assembled s
unfolding assemble_codes
codes_assembled e s cs b = b.names _ ∙ b.bytes _

-- an assembled body within the limits
outcome_result : (entries : ℕ) (bs : List ℕ) → length bs ≤ body_limit → assemble_outcome entries (assembled bs) ≡ produced (length bs) bs (entries ∷ [])
unfolding assemble_outcome measured
outcome_result entries bs h = rw (le-ltb body_limit (length bs) h)

module _ (sheetText : List ℕ) (sh : Sheet) (c : ℕ) (read : sheet_of sheetText ≡ sheet sh c) (bytes ends body : List ℕ) (b : Bytes body) (short : length body ≤ body_limit)
    (rs : List (List ℕ)) (d : decode_body (type_rows sh.opcodes) (largest sh.opcodes) body ≡ decoded rs) where
  abbrev context : Context
  context = context_of sheetText sh.opcodes bytes ends

  names : (k : ℕ) → ListedName (name_of context k)
  names k = listed_name sheetText 0 sh c (whole_sheet sheetText sh c read) bytes ends k

  stands : Decoding (type_rows sh.opcodes) (largest sh.opcodes) body 0 rs
  stands = body_stands (type_rows sh.opcodes) (largest sh.opcodes) body rs d

  low : all (λ x. leb x 65536) (places_of rs (length body)) ≡ true
  low =
      all_weaken (λ x. leb x (length body)) (λ x. leb x 65536) (λ x h. le-leb x 65536 (omega (arith, leb-true x (length body) h)))
      (places_of rs (length body)) (places_most (type_rows sh.opcodes) (largest sh.opcodes) body stands)

  module _ (good : round_trips context body rs ≡ true) where
    abbrev lines : List (List ℕ)
    lines = listed_lines context (label_offsets context rs) rs

    back : Back context body 0 (codes_from context 1 [] lines)
    unfolding round_trips
    back =
        let g = good_sheet sheetText sh c read in
        codes_back sheetText sh c (whole_sheet sheetText sh c read) bytes ends body b short (largest sh.opcodes) g.small g.rows (places_of rs (length body)) low (label_offsets context rs) stands good 1 []

    module _ (t : List ℕ) (n : ℕ) (ok : list_decoded default context [] (decoded rs) ≡ listed t n) where
      is_accepted : Accepted (long_line default context [] rs) (listing.listed_text default context (label_offsets context rs) [] rs) t (listing.list_entries default context rs) n
      unfolding list_decoded
      is_accepted = accepted _ _ t _ n ok

      its_lines : lines_of t ≡ lines
      its_lines = ap lines_of (sym is_accepted.is_text) ∙ listing_lines context names (label_offsets context rs) rs

      -- its text is assembled to the body
      pub text_assembled : assemble_text context t ≡ assembled body
      unfolding assemble_text
      text_assembled =
          rw its_lines
          (lines_good context names (label_offsets context rs) (assemble_codes context (codes_from context 1 [] lines)) rs is_accepted.short 1
          ∙ codes_assembled context body (codes_from context 1 [] lines) back)

      -- it needs no more label entries than the listing did
      pub entries_most : assemble_entries context t ≤ n
      unfolding round_trips listing.list_entries
      entries_most =
          let g = good_sheet sheetText sh c read in
          let places = places_of rs (length body) in
          let count = entries_labelled sheetText sh c (whole_sheet sheetText sh c read) bytes ends body b short (largest sh.opcodes) g.small g.rows places low (label_offsets context rs) stands good 1 0 in
          rw its_lines (omega (arith, count, labelled_most (type_rows sh.opcodes) (largest sh.opcodes) body (label_offsets context rs) stands, is_accepted.are_entries))

      -- the operation gives the body, and needs as many label entries as the text's instructions take
      pub circle : is_too_large bytes ends ≡ false → fault bytes ends ≡ missing → length t ≤ text_limit
          → assemble sheetText bytes ends t ≡ produced (length body) body (assemble_entries context t ∷ [])
      unfolding assemble under_inputs under_table unless_fault under_context
      circle large sound small =
          rw (le-ltb text_limit (length t) small, large, sound, read, text_assembled) (outcome_result (assemble_entries context t) body short)
