-- What was carried is assembled again from its listing, as operations, each with its own space. Assumes nothing.
use mathlib.Core.Path.{◌≡◌, refl, ap, sym, ◌∙◌}
use mathlib.Core.Bool.{true, false}
use mathlib.Core.List.{List, [], ◌∷◌}
use Prim.Native.Nat.{ℕ}
use lib.ListN.{length, take}
use Rattle.lists.proofs.Tests.{true_not_false}
use Rattle.answers.specs.Report.{success, written}
use Rattle.answers.specs.Outcome.{Result, produced, lent, is_short, space_of, Ended}
use Rattle.answers.specs.Outcome.Outcome.{result}
use Rattle.answers.proofs.OutcomeLaws.{succeeded, same_result}
use Rattle.spec_sheet.specs.Sheet.{SheetRead, sheet_of}
use Rattle.spec_sheet.specs.Sheet.SheetRead.{sheet, malformed}
use Rattle.spec_body.specs.Decode.{decode_body}
use Rattle.spec_carry.specs.Carry.{Given, sheet_case, context_in, largest_in, into, records_of, carrying_of, carried, carry}
use Rattle.spec_carry.specs.PlainTexts.{plain_texts}
use Rattle.spec_carry.proofs.MeaningLaws.{decoding_within}
use Rattle.spec_carry.proofs.CarryLaws.{last₁, last₂, carried_records, sound₁, sound₂, rising, stands, accepted, result_is, carried_records_lem, carried_places, carried_decodes, carried_bytes}
use Rattle.spec_listing.specs.Operation.{list}
use Rattle.spec_hasm.specs.Operation.{assemble}
use Rattle.theorems.specs.Premises.{default, good_records, round_trips, decoded_back, sheet_back, body_round_trips}
use Rattle.theorems.proofs.ListAssemble.{Back, list_assemble, list_assemble_ended, output_left}
use Rattle.theorems.proofs.CarryBack.{records_back}

-- a sheet that was read, as the round trip takes it
sheet_back_lem : (r : SheetRead) (text bytes ends body : List ℕ) → (sheet_case r).holds ≡ false
    → sheet_back r text bytes ends body ≡ decoded_back (context_in r text bytes ends) body (decode_body (context_in r text bytes ends).types (largest_in r) body)
unfolding sheet_case context_in largest_in sheet_back
sheet_back_lem (sheet sh at) text bytes ends body h = refl
sheet_back_lem (malformed line) text bytes ends body h = true_not_false true refl h

module _ (g : Given) (r : Result) (e : carry g ≡ result r) (plain : plain_texts (into g) (carried_records g) ≡ true) where
  records_good : good_records (into g) (carrying_of g).moved (carried_records g) ≡ true
  records_good =
      let a = accepted g r e in
      ap (good_records (into g) (carrying_of g).moved) (carried_records_lem g r e)
      ∙ records_back (carrying_of g) (rising g a) (last₁ g) (last₂ g) (sound₁ g a) (sound₂ g a) 0 0
      (decoding_within _ (last₁ g) g.body (stands g a)) refl a.first_passed a.second_passed
      (sym (ap (plain_texts (into g)) (carried_records_lem g r e)) ∙ plain)

  -- the result of carrying round-trips through its listing, where its texts are plain
  pub carried_comes_back : body_round_trips g.sheet₂ g.bytes₂ g.ends₂ (carried g) ≡ true
  unfolding body_round_trips round_trips decoded_back
  carried_comes_back =
      sheet_back_lem (sheet_of g.sheet₂) g.sheet₂ g.bytes₂ g.ends₂ (carried g) (accepted g r e).read₂
      ∙ rw (carried_decodes g r e)
      (ap (λ (places : List ℕ). good_records (into g) places (carried_records g)) (carried_places g r e) ∙ records_good)

-- "if its string texts are plain and its default listing is accepted, assembling the listing gives the result's bytes": it needs no
-- more label entries than the listing did
pub carried_assembles : (g : Given) (n : ℕ) (bs need : List ℕ) → carry g ≡ produced n bs need → plain_texts (into g) (carried_records g) ≡ true → (r : Result)
    → list default g.sheet₂ g.bytes₂ g.ends₂ bs ≡ result r → Back r g.sheet₂ g.bytes₂ g.ends₂ bs
carried_assembles g n bs need e plain r l =
    let w : bs ≡ carried g = (same_result (result_is g _ e)).output_is in
    let l' : list default g.sheet₂ g.bytes₂ g.ends₂ (carried g) ≡ result r = rw w at l in
    rw w (list_assemble g.sheet₂ g.bytes₂ g.ends₂ (carried g) r (carried_bytes g _ e) (carried_comes_back g _ e plain) l')

-- the same of what the operations answer and leave: where carrying gave out a body and listing gave out what stands in carrying's
-- output, assembling what stands in the listing's output, with at least the space that this needs, gives exactly the carried bytes
pub carried_assembles_ended : (g : Given) (out room after : List ℕ) (n : ℕ) → Ended (carry g) out room after (success n)
    → plain_texts (into g) (carried_records g) ≡ true → (out₂ room₂ after₂ : List ℕ) (m : ℕ)
    → Ended (list default g.sheet₂ g.bytes₂ g.ends₂ (take n after)) out₂ room₂ after₂ (success m) → (out₃ room₃ : List ℕ)
    → is_short (space_of (assemble g.sheet₂ g.bytes₂ g.ends₂ (take m after₂))) (lent (out₃ ∷ []) room₃) ≡ false
    → Ended (assemble g.sheet₂ g.bytes₂ g.ends₂ (take m after₂)) out₃ room₃ (written (take n after) out₃) (success n)
carried_assembles_ended g out room after n c plain out₂ room₂ after₂ m l out₃ room₃ enough =
    let s = succeeded _ out room after n c in
    let e : carry g ≡ result s.of = s.is_result in
    let is = result_is g s.of e in
    let w : take n after ≡ carried g = output_left out is s.counts s.left in
    let size : length (carried g) ≡ n = sym (same_length {t = carried g} {need = length (records_of g) ∷ []} is) ∙ s.counts in
    let l' : Ended (list default g.sheet₂ g.bytes₂ g.ends₂ (carried g)) out₂ room₂ after₂ (success m) = rw w at l in
    let k = list_assemble_ended g.sheet₂ g.bytes₂ g.ends₂ (carried g) out₂ room₂ after₂ m (carried_bytes g _ e) (carried_comes_back g _ e plain) l' out₃ room₃ enough in
    rw (w, sym size) k
  where
    same_length : {r : Result} {t : List ℕ} {need : List ℕ} → result r ≡ produced (length t) t need → r.length ≡ length t
    same_length {r} {t} {need} e =
        let q : r ≡ record { length = length t; outputs = t ∷ []; entries = need } = cc e in
        ap (λ (x : Result). x.length) q
