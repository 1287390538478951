-- Listing a body and assembling what was listed, as operations on the same inputs, each with its own space. Assumes nothing.
use mathlib.Core.Path.{◌≡◌, refl, ap, sym, ◌∙◌}
use mathlib.Core.Bool.{Bool, true, false}
use mathlib.Core.List.{List, [], ◌∷◌}
use Prim.Native.Nat.{ℕ, ◌≤◌}
use lib.Dec.{ltb}
use lib.ListN.{length, take, drop}
use lib.Seq.{take-append_seam}
use borrow.Author.Tests.{ltb-false}
use Rattle.lists.specs.Choice.{pick}
use Rattle.lists.specs.Scan.{Bytes}
use Rattle.lists.specs.Found.{Found}
use Rattle.lists.specs.Found.Found.{found, missing}
use Rattle.lists.proofs.Tests.{true_not_false}
use Rattle.spec_sheet.specs.Sheet.{Sheet, SheetRead, sheet_of, type_rows, largest}
use Rattle.spec_sheet.specs.Sheet.SheetRead.{sheet, malformed}
use Rattle.spec_strings.specs.Table.{is_too_large, fault}
use Rattle.spec_body.specs.Decode.{Decoded, decode_body}
use Rattle.spec_body.specs.Decode.Decoded.{decoded, not_decoded}
use Rattle.limits.specs.Limits.{body_limit, listing_limit}
use Rattle.answers.specs.Report.{success, written}
use Rattle.answers.specs.Outcome.{Outcome, Result, produced, measured, lent, is_short, space_of, written_each, Ended}
use Rattle.answers.specs.Outcome.Outcome.{result, refused_with}
use Rattle.answers.proofs.OutcomeLaws.{not_refused, with_space, succeeded}
use Rattle.answers.specs.declared.refusal.Refusal.{Refusal}
use Rattle.answers.specs.declared.refusal.Refusal.TheVariants.{TooLarge}
use Rattle.spec_inputs.specs.Context.{Context}
use Rattle.spec_listing.specs.Listing.{Listed, list_decoded}
use Rattle.spec_listing.specs.Listing.Listed.{listed, not_listed}
use Rattle.spec_listing.specs.Operation.{list_outcome, list}
use Rattle.spec_inputs.specs.Inputs.{unless_fault, under_table, context_of, under_context, under_inputs}
use Rattle.spec_hasm.specs.Assemble.{assemble_entries}
use Rattle.spec_hasm.specs.Operation.{assemble}
use Rattle.theorems.specs.Premises.{default, decoded_back, sheet_back, body_round_trips}
use Rattle.theorems.proofs.Circle.{circle, entries_most}

-- where a test would refuse, a result says that it did not
passed : {P : Type 0} (test : Bool) (x : Refusal) (rest : Outcome) (r : Result) → pick test (refused_with x) rest ≡ result r → (test ≡ false → rest ≡ result r → P) → P
passed true x rest r e f = not_refused e
passed false x rest r e f = f refl e

sound : {P : Type 0} (found_at : Found) (rest : Outcome) (r : Result) → unless_fault found_at rest ≡ result r → (found_at ≡ missing → rest ≡ result r → P) → P
unfolding unless_fault
sound (found id) rest r e f = not_refused e
sound missing rest r e f = f refl e

-- a listing that is a result: its one output and the label entries that it needs
pub record Shown (r : Result) (t : List ℕ) (k : ℕ) : Type 0 where
  pub is_result : result r ≡ produced (length t) t (k ∷ [])
  pub small : length t ≤ listing_limit

shown : (t : List ℕ) (k : ℕ) (r : Result) → list_outcome (listed t k) ≡ result r → Shown r t k
unfolding list_outcome measured
shown t k r e =
    passed (ltb listing_limit (length t)) TooLarge (produced (length t) t (k ∷ [])) r e λ h f.
    record { is_result = sym f; small = ltb-false listing_limit (length t) h }

-- what a text is assembled to: the body, with no more label entries than the listing needed
pub record Back (r : Result) (text bytes ends body : List ℕ) : Type 0 where
  pub listing : List ℕ
  pub listed_with : ℕ
  pub was_listed : Shown r listing listed_with
  pub needs : ℕ
  pub assembles : assemble text bytes ends listing ≡ produced (length body) body (needs ∷ [])
  pub fewer : needs ≤ listed_with

module _ (text bytes ends body : List ℕ) (r : Result) (b : Bytes body) (short : length body ≤ body_limit) (large : is_too_large bytes ends ≡ false) (good-table : fault bytes ends ≡ missing) where
  module _ (sh : Sheet) (c : ℕ) (read : sheet_of text ≡ sheet sh c) where
    abbrev context : Context
    context = context_of text sh.opcodes bytes ends

    module _ (rs : List (List ℕ)) (d : decode_body (type_rows sh.opcodes) (largest sh.opcodes) body ≡ decoded rs) (good : decoded_back context body (decoded rs) ≡ true) where
      listed_back : (l : Listed) → list_decoded default context [] (decoded rs) ≡ l → list_outcome l ≡ result r → Back r text bytes ends body
      unfolding decoded_back list_outcome
      listed_back (listed t k) ok e =
          let s = shown t k r e in
          record {
            listing = t;
            listed_with = k;
            was_listed = s;
            needs = assemble_entries context t;
            assembles = circle text sh c read bytes ends body b short rs d good t k ok large good-table s.small;
            fewer = entries_most text sh c read bytes ends body b short rs d good t k ok;
          }
      listed_back (not_listed x) ok e = not_refused e

    decoded_back_lem : (x : Decoded) → decode_body (type_rows sh.opcodes) (largest sh.opcodes) body ≡ x → decoded_back context body x ≡ true
        → list_outcome (list_decoded default context [] x) ≡ result r → Back r text bytes ends body
    unfolding decoded_back
    decoded_back_lem (decoded rs) d good e = listed_back rs d good (list_decoded default context [] (decoded rs)) refl e
    decoded_back_lem (not_decoded x) d good e = true_not_false false good refl

  sheet_back_lem : (x : SheetRead) → sheet_of text ≡ x → sheet_back x text bytes ends body ≡ true
      → under_context x text bytes ends (λ e last. list_outcome (list_decoded default e [] (decode_body e.types last body))) ≡ result r → Back r text bytes ends body
  unfolding sheet_back under_context
  sheet_back_lem (sheet sh c) read good e = decoded_back_lem sh c read (decode_body (type_rows sh.opcodes) (largest sh.opcodes) body) refl good e
  sheet_back_lem (malformed line) read good e = true_not_false false good refl

-- the default listing of a body that round-trips is assembled to the body; it needs no more label entries than the listing did
pub list_assemble : (text bytes ends body : List ℕ) (r : Result) → Bytes body → body_round_trips text bytes ends body ≡ true → list default text bytes ends body ≡ result r
    → Back r text bytes ends body
unfolding list under_inputs under_table body_round_trips
list_assemble text bytes ends body r b good e =
    passed (ltb body_limit (length body)) TooLarge _ r e λ short f.
    passed (is_too_large bytes ends) TooLarge _ r f λ large g.
    sound (fault bytes ends) _ r g λ none h.
    sheet_back_lem text bytes ends body r b (ltb-false body_limit (length body) short) large none (sheet_of text) refl good h

-- what an operation left in its one output
pub output_left : {r : Result} {t need : List ℕ} {n : ℕ} (out : List ℕ) {after : List ℕ} → result r ≡ produced (length t) t need → r.length ≡ n
    → after ∷ [] ≡ written_each r.outputs (out ∷ []) → take n after ≡ t
unfolding written_each
output_left {r} {t} {need} {n} out {after} e l w =
    let q : r ≡ record { length = length t; outputs = t ∷ []; entries = need } = cc e in
    let size : length t ≡ n = sym (ap (λ (x : Result). x.length) q) ∙ l in
    let texts : written_each r.outputs (out ∷ []) ≡ written t out ∷ [] = ap (λ (x : Result). written_each x.outputs (out ∷ [])) q in
    let front : after ≡ written t out = cc (w ∙ texts) in
    rw (sym size, front) (take-append_seam t (drop (length t) out))

-- the same of what the operations answer and leave: where a listing was given out, assembling what stands in its output, with at
-- least the space that this needs, gives exactly the body
pub list_assemble_ended : (text bytes ends body out room after : List ℕ) (n : ℕ) → Bytes body → body_round_trips text bytes ends body ≡ true
    → Ended (list default text bytes ends body) out room after (success n) → (out₂ room₂ : List ℕ)
    → is_short (space_of (assemble text bytes ends (take n after))) (lent (out₂ ∷ []) room₂) ≡ false
    → Ended (assemble text bytes ends (take n after)) out₂ room₂ (written body out₂) (success (length body))
list_assemble_ended text bytes ends body out room after n b good e out₂ room₂ enough =
    let s = succeeded _ out room after n e in
    let k = list_assemble text bytes ends body s.of b good s.is_result in
    let t = output_left out k.was_listed.is_result s.counts s.left in
    with_space _ _ _ _ out₂ room₂ (ap (assemble text bytes ends) t ∙ k.assembles) enough
