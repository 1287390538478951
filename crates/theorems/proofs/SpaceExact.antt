-- The space that is told before the work is exact, for every operation (document 02 (b)). Assumes nothing.
use mathlib.Core.Path.{◌≡◌, refl}
use mathlib.Core.Bool.{Bool, true, false}
use mathlib.Core.List.{List}
use Prim.Native.Nat.{ℕ}
use native.Mathlib.Omega.{arith}
use lib.Dec.{ltb}
use lib.ListN.{length}
use Rattle.lists.specs.Choice.{pick}
use Rattle.limits.specs.Limits.{body_limit, text_limit, listing_limit}
use Rattle.answers.specs.Outcome.{Outcome}
use Rattle.answers.specs.Outcome.Outcome.{refused_with}
use Rattle.answers.specs.Space.{OutputUnit, Exact}
use Rattle.answers.specs.Space.OutputUnit.{in_bytes, in_records}
use Rattle.answers.specs.declared.refusal.Refusal.TheVariants.{TooLarge, NoFunction}
use Rattle.answers.proofs.ExactLaws.{Shaped, measured_shaped, exact}
use Rattle.answers.proofs.ExactLaws.Shaped.{of_bytes, of_records, of_refusal}
use Rattle.spec_sheet.specs.Sheet.{Sheet, sheet_of, type_rows, largest}
use Rattle.spec_sheet.specs.Sheet.SheetRead.{sheet}
use Rattle.spec_inputs.proofs.UnderLaws.{unless_refused, under_sheet_lem, under_inputs_lem}
use Rattle.spec_body.specs.Record.{join}
use Rattle.spec_body.specs.Decode.{Decoded, decode_body}
use Rattle.spec_body.specs.Decode.Decoded.{decoded, not_decoded}
use Rattle.spec_body.specs.Function.{in_area, function_body, function_size}
use Rattle.spec_body.specs.Operation.{decode_outcome, function_outcome, decode, decode_function}
use Rattle.spec_body.proofs.DecodeLaws.{body_whole, length_join}
use Rattle.spec_body.proofs.RowLaws.{good_length}
use Rattle.spec_body.proofs.SheetTables.{good_sheet}
use Rattle.spec_listing.specs.Listing.{Listed}
use Rattle.spec_listing.specs.Listing.Listed.{listed, not_listed}
use Rattle.spec_listing.specs.Operation.{list_outcome, list, list_function, list_module}
use Rattle.spec_hasm.specs.Assemble.{Assembled}
use Rattle.spec_hasm.specs.Assemble.Assembled.{assembled, not_assembled}
use Rattle.spec_hasm.specs.Operation.{assemble_outcome, assemble}
use Rattle.spec_carry.specs.Carry.{records_of, carried, carry}
use Rattle.spec_carry.proofs.CaseLaws.{under_cases}
use Rattle.theorems.specs.Calls.{Call, outcome_of, unit_of}
use Rattle.theorems.specs.Calls.Call.{decoding, decoding_function, listing, listing_function, listing_module, assembling, carrying}

-- a function's place: 20, then 18 of its body
in_place : {u : OutputUnit} (functions area : List ℕ) (base id : ℕ) {x : Outcome} → Shaped u x
    → Shaped u (pick (in_area functions area base id) (pick (ltb body_limit (function_size functions id)) (refused_with TooLarge) x) (refused_with (NoFunction id)))
in_place {u} functions area base id {x} p = by_case (in_area functions area base id)
  where
    by_case : (b : Bool) → Shaped u (pick b (pick (ltb body_limit (function_size functions id)) (refused_with TooLarge) x) (refused_with (NoFunction id)))
    by_case true = unless_refused (Shaped u) (of_refusal u) (ltb body_limit (function_size functions id)) TooLarge p
    by_case false = of_refusal u (NoFunction id)

-- decoding under a sheet: each record has 20 words
records_shaped : (text : List ℕ) (sh : Sheet) (at : ℕ) → sheet_of text ≡ sheet sh at → (body : List ℕ) → Shaped in_records (decode_outcome (decode_body (type_rows sh.opcodes) (largest sh.opcodes) body))
unfolding decode_outcome
records_shaped text sh at r body = by_decoded (decode_body (type_rows sh.opcodes) (largest sh.opcodes) body) refl
  where
    by_decoded : (d : Decoded) → decode_body (type_rows sh.opcodes) (largest sh.opcodes) body ≡ d → Shaped in_records (decode_outcome d)
    by_decoded (not_decoded x) e = of_refusal in_records x
    by_decoded (decoded rs) e =
        let g = good_sheet text sh at r in
        of_records (length rs) (join rs) (length rs) (length_join (body_whole (type_rows sh.opcodes) (largest sh.opcodes) body rs (λ i l. good_length (g.rows i (omega (arith, l, g.small)))) e))

listing_shaped : (l : Listed) → Shaped in_bytes (list_outcome l)
unfolding list_outcome
listing_shaped (listed t entries) = measured_shaped listing_limit entries t
listing_shaped (not_listed x) = of_refusal in_bytes x

body_shaped : (entries : ℕ) (x : Assembled) → Shaped in_bytes (assemble_outcome entries x)
unfolding assemble_outcome
body_shaped entries (assembled bs) = measured_shaped body_limit entries bs
body_shaped entries (not_assembled x) = of_refusal in_bytes x

-- every operation has one output
shaped : (c : Call) → Shaped (unit_of c) (outcome_of c)
unfolding unit_of outcome_of decode decode_function function_outcome list list_function list_module assemble carry
shaped (decoding text body) =
    unless_refused (Shaped in_records) (of_refusal in_records) (ltb body_limit (length body)) TooLarge
    (under_sheet_lem (Shaped in_records) (of_refusal in_records) text _ λ sh at r. records_shaped text sh at r body)
shaped (decoding_function text functions area base id) =
    under_sheet_lem (Shaped in_records) (of_refusal in_records) text _ λ sh at r.
    in_place functions area base id (records_shaped text sh at r (function_body functions area base id))
shaped (listing o text bytes ends body) =
    unless_refused (Shaped in_bytes) (of_refusal in_bytes) (ltb body_limit (length body)) TooLarge
    (under_inputs_lem (Shaped in_bytes) (of_refusal in_bytes) text bytes ends _ λ e last. listing_shaped _)
shaped (listing_function o text bytes ends a id) =
    under_inputs_lem (Shaped in_bytes) (of_refusal in_bytes) text bytes ends _ λ e last. in_place a.functions a.bytes a.base id (listing_shaped _)
shaped (listing_module o text bytes ends a) = under_inputs_lem (Shaped in_bytes) (of_refusal in_bytes) text bytes ends _ λ e last. listing_shaped _
shaped (assembling text bytes ends source) =
    unless_refused (Shaped in_bytes) (of_refusal in_bytes) (ltb text_limit (length source)) TooLarge
    (under_inputs_lem (Shaped in_bytes) (of_refusal in_bytes) text bytes ends _ λ e last. body_shaped _ _)
shaped (carrying g) = under_cases (Shaped in_bytes) (of_refusal in_bytes) _ (of_bytes (length (carried g)) (carried g) (length (records_of g)))

-- "with it no 19 occurs, and with any one figure above 0 lowered by one 19 occurs. Any other refusal comes back the same."
pub space_exact : (c : Call) → Exact (unit_of c) (outcome_of c)
space_exact c = exact (shaped c)
