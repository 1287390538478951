-- Carrying is refused by its list of cases, and what is carried is decoded to as many instructions, which mean the same (document
-- 01, 'Carrying'). Assumes nothing.
use mathlib.Core.Path.{◌≡◌, refl, ap, sym, ◌∙◌}
use mathlib.Core.Bool.{true, false}
use mathlib.Core.List.{List, [], ◌∷◌, ◌++◌}
use Prim.Native.Nat.{ℕ, zero, suc, ◌+◌, ◌≤◌}
use native.Mathlib.Omega.{arith}
use lib.Dec.{ltb}
use lib.ListN.{length, get_or, length-append}
use lib.Seq.{take_all}
use borrow.Author.Tests.{le-ltb, ltb-false}
use Rattle.limits.specs.Limits.{body_limit}
use Rattle.lists.specs.Scan.{Bytes, same}
use Rattle.lists.specs.Text as characters
use Rattle.lists.specs.Found.Found.{missing}
use Rattle.lists.proofs.Scans.{same_eq}
use Rattle.lists.proofs.Tests.{true_not_false, by_test}
use Rattle.answers.specs.Outcome.{Result, produced}
use Rattle.answers.specs.Outcome.Outcome.{result}
use Rattle.answers.specs.declared.refusal.Refusal.TheVariants.{TooLarge}
use Rattle.spec_sheet.specs.Row.{length_of, total_width}
use Rattle.spec_sheet.specs.Sheet.{Sheet, SheetRead, sheet_of, info_rows, find_name, largest}
use Rattle.spec_sheet.specs.Sheet.SheetRead.{sheet, malformed}
use Rattle.spec_sheet.proofs.NameTextLaws.{name_not_invalid, invalid_no_name}
use Rattle.spec_sheet.proofs.OwnNameLaws.{sheet_no_name}
use Rattle.spec_sheet.proofs.SheetLaws.{whole_sheet}
use Rattle.spec_sheet.proofs.RowLaws.{sheet_type_length, sheet_code_most, info_rows_length, sheet_named_below, sheet_above_least, sheet_above_most}
use Rattle.spec_inputs.specs.Context.{name_of}
use Rattle.spec_inputs.specs.Inputs.{context_of, under_sheet}
use Rattle.spec_inputs.proofs.NameLaws.{sheet_name_text}
use Rattle.spec_body.specs.Record.{offset_of, pairs_of, join}
use Rattle.spec_body.specs.Starts.{places_of}
use Rattle.spec_body.specs.Operation.{decode_outcome, decode}
use Rattle.spec_body.specs.Decode.{Decoded, decode_body}
use Rattle.spec_body.specs.Decode.Decoded.{decoded, not_decoded}
use Rattle.spec_body.proofs.DecodeLaws.{Decoding, body_stands}
use Rattle.spec_carry.specs.Meaning.{meanings, meanings_from, all_mean}
use Rattle.spec_carry.specs.Cases.{Case, case}
use Rattle.spec_carry.specs.Passes.{Carrying, old_row, new_row, moved_from, first_pass, second_pass, new_operands, new_bytes}
use Rattle.spec_carry.specs.Carry.{Given, sheet_case, input_cases, context_in, largest_in, from, into, decoded_body, decode_cases, records_in, records_of, carrying_of, carried, carry_cases, carry}
use Rattle.spec_carry.proofs.CaseLaws.{Passed, passed_left, passed_right, passed_head, passed_tail, Decided, decided}
use Rattle.spec_carry.proofs.PlaceLaws.{places_count, moved_count, moved_rise}
use Rattle.spec_carry.proofs.ValueLaws.{Rising}
use Rattle.spec_carry.proofs.ResultLaws.{new_records, new_count, operands_length, result_decoded, result_places, Known, bytes_new}
use Rattle.spec_carry.proofs.MeaningLaws.{decoding_bounded, Sound, all_known, same_meanings, all_mean_lem}

-- a sheet that was read is sound
pub sheet_sound : (text : List ℕ) (sh : Sheet) (at : ℕ) → sheet_of text ≡ sheet sh at → (bytes ends : List ℕ) → Sound (context_of text sh.opcodes bytes ends) (largest sh.opcodes)
sheet_sound text sh at e bytes ends =
    let w = whole_sheet text sh at e in
    let most = sheet_above_most text 0 sh at w in
    let least = sheet_above_least text 0 sh at w in
    record {
      byte = omega arith;
      eight = λ k h. sheet_type_length text 0 sh at w k (omega arith);
      codes = sheet_code_most text 0 sh at w;
      infos_length = info_rows_length sh.opcodes;
      named_below = λ k h. omega (arith, sheet_named_below text 0 sh at w k h);
      not_invalid = λ k h. by_test (same (name_of (context_of text sh.opcodes bytes ends) k) (characters.text "<invalid>"))
          (λ y. absurd (name_not_invalid _ (sheet_name_text text 0 sh at w bytes ends k h) (same_eq _ _ y)))
          (λ y. y);
    }

-- "always for "<invalid>"": no sheet that was read has that name
pub invalid_missing : (text : List ℕ) (sh : Sheet) (at : ℕ) → sheet_of text ≡ sheet sh at → find_name text (characters.text "<invalid>") 0 (info_rows sh.opcodes) ≡ missing
invalid_missing text sh at e =
    ap (find_name text (characters.text "<invalid>") 0) (sym (take_all 256 (info_rows sh.opcodes) (omega (arith, info_rows_length sh.opcodes))))
    ∙ sheet_no_name text 0 sh at (whole_sheet text sh at e) (characters.text "<invalid>") 256 invalid_no_name

-- one whose case does not hold was read
read_sound : (r : SheetRead) (text bytes ends : List ℕ) → sheet_of text ≡ r → (sheet_case r).holds ≡ false → Sound (context_in r text bytes ends) (largest_in r)
unfolding sheet_case context_in largest_in
read_sound (sheet sh at) text bytes ends e h = sheet_sound text sh at e bytes ends
read_sound (malformed line) text bytes ends e h = true_not_false true refl h

-- a body whose cases do not hold was decoded
read_decoded : (d : Decoded) → Passed (decode_cases d) → d ≡ decoded (records_in d)
unfolding decode_cases records_in
read_decoded (decoded rs) p = refl
read_decoded (not_decoded x) p = true_not_false true refl (passed_head p)

-- decoding, as an operation, of a body that is decoded under a sheet that was read
read_decode : (r : SheetRead) (text bytes ends body : List ℕ) (rs : List (List ℕ)) → sheet_of text ≡ r → (sheet_case r).holds ≡ false → length body ≤ body_limit
    → decode_body (context_in r text bytes ends).types (largest_in r) body ≡ decoded rs → decode text body ≡ produced (length rs) (join rs) []
unfolding sheet_case context_in largest_in decode under_sheet decode_outcome
read_decode (sheet sh at) text bytes ends body rs e h l d = rw (le-ltb body_limit (length body) l, e, d)
read_decode (malformed line) text bytes ends body rs e h l d = true_not_false true refl h

-- no new place is past the result's length
moved_most : (x : Carrying) (at i : ℕ) (rs : List (List ℕ)) (k : ℕ) → get_or (moved_from x.from x.into at rs) k 0 ≤ at + length (new_bytes x i rs)
unfolding moved_from new_bytes
moved_most x at i [] zero = omega arith
moved_most x at i [] (suc k) = omega arith
moved_most x at i (r ∷ rs) zero = omega arith
moved_most x at i (r ∷ rs) (suc k) =
    let row = new_row x.from x.into r in
    let os = new_operands x (offset_of r) (get_or x.moved i 0) (old_row x.from r) row (pairs_of r) in
    let l : length os ≡ total_width row = operands_length x (offset_of r) (get_or x.moved i 0) (old_row x.from r) row (pairs_of r) in
    omega (arith, length-append os (new_bytes x (suc i) rs), l, moved_most x (at + length_of row) (suc i) rs k)

-- the largest opcodes of both sheets
abbrev pub last₁ : Given → ℕ
last₁ g = largest_in (sheet_of g.sheet₁)

abbrev pub last₂ : Given → ℕ
last₂ g = largest_in (sheet_of g.sheet₂)

-- the cases of the instructions
abbrev pub first : Given → List Case
first g = first_pass (carrying_of g) 0 (records_of g)

abbrev pub second : Given → List Case
second g = second_pass (carrying_of g) 0 (records_of g)

-- the list of cases decides what carrying comes to: it is refused exactly where a case holds, with the first that does
pub carry_decided : (g : Given) → Decided (input_cases g ++ carry_cases g) (record { length = length (carried g); outputs = carried g ∷ []; entries = length (records_of g) ∷ [] }) (carry g)
unfolding carry
carry_decided g =
    decided (input_cases g ++ carry_cases g) (record { length = length (carried g); outputs = carried g ∷ []; entries = length (records_of g) ∷ [] })

-- what the cases say where none holds
pub record Accepted (g : Given) : Type 0 where
  pub short : length g.body ≤ body_limit
  pub read₁ : (sheet_case (sheet_of g.sheet₁)).holds ≡ false
  pub read₂ : (sheet_case (sheet_of g.sheet₂)).holds ≡ false
  pub was_decoded : decoded_body g ≡ decoded (records_of g)
  pub first_passed : Passed (first g)
  pub second_passed : Passed (second g)
  pub small : length (carried g) ≤ body_limit

passed_accepted : (g : Given) → Passed (input_cases g ++ carry_cases g) → Accepted g
unfolding input_cases carry_cases
passed_accepted g p =
    let last : List Case = case (ltb body_limit (length (carried g))) TooLarge ∷ [] in
    let sheets : Passed (sheet_case (sheet_of g.sheet₁) ∷ sheet_case (sheet_of g.sheet₂) ∷ []) =
    passed_tail (passed_tail (passed_tail (passed_tail (passed_tail (passed_left (input_cases g) (carry_cases g) p))))) in
    let all : Passed (decode_cases (decoded_body g) ++ (first g ++ (second g ++ last))) = passed_right (input_cases g) (carry_cases g) p in
    let passes : Passed (first g ++ (second g ++ last)) = passed_right (decode_cases (decoded_body g)) (first g ++ (second g ++ last)) all in
    let rest : Passed (second g ++ last) = passed_right (first g) (second g ++ last) passes in
    record {
      short = ltb-false body_limit (length g.body) (passed_head (passed_left (input_cases g) (carry_cases g) p));
      read₁ = passed_head sheets;
      read₂ = passed_head (passed_tail sheets);
      was_decoded = read_decoded (decoded_body g) (passed_left (decode_cases (decoded_body g)) (first g ++ (second g ++ last)) all);
      first_passed = passed_left (first g) (second g ++ last) passes;
      second_passed = passed_left (second g) last rest;
      small = ltb-false body_limit (length (carried g)) (passed_head (passed_right (second g) last rest));
    }

-- the records that the result is decoded to under the second sheet
abbrev pub carried_records : Given → List (List ℕ)
carried_records g = records_in (decode_body (into g).types (last₂ g) (carried g))

-- what the laws of instructions ask for
module _ (g : Given) (a : Accepted g) where
  pub sound₁ : Sound (from g) (last₁ g)
  sound₁ = read_sound (sheet_of g.sheet₁) g.sheet₁ g.bytes₁ g.ends₁ refl a.read₁

  pub sound₂ : Sound (into g) (last₂ g)
  sound₂ = read_sound (sheet_of g.sheet₂) g.sheet₂ g.bytes₂ g.ends₂ refl a.read₂

  pub rising : Rising (carrying_of g)
  unfolding carried
  rising =
      record {
        as_many = moved_count (from g) (into g) 0 (records_of g) ∙ sym (places_count (records_of g) (length g.body));
        rises = λ j k l h. moved_rise (from g) (into g) 0 (records_of g) j k l (omega (arith, moved_count (from g) (into g) 0 (records_of g)));
        small = λ k. omega (arith, moved_most (carrying_of g) 0 0 (records_of g) k, a.small);
      }

  pub known : Known (carrying_of g) (last₂ g) (records_of g)
  known = all_known (carrying_of g) rising (last₁ g) (last₂ g) sound₁ sound₂ 0 (records_of g) a.first_passed

  pub stands : Decoding (from g).types (last₁ g) g.body 0 (records_of g)
  stands = body_stands (from g).types (last₁ g) g.body (records_of g) a.was_decoded

-- where carrying gives a result
module _ (g : Given) (r : Result) (e : carry g ≡ result r) where
  passed : Passed (input_cases g ++ carry_cases g)
  passed = (carry_decided g).result_is_passed r e

  pub accepted : Accepted g
  accepted = passed_accepted g passed

  -- it is what the definition says
  pub result_is : result r ≡ produced (length (carried g)) (carried g) (length (records_of g) ∷ [])
  result_is = sym e ∙ (carry_decided g).passed_is_result passed

  was_written : decode_body (into g).types (last₂ g) (carried g) ≡ decoded (new_records (carrying_of g) 0 0 (records_of g))
  unfolding carried
  was_written = result_decoded (carrying_of g) (last₂ g) (records_of g) (known g accepted)

  -- they are those that were written
  pub carried_records_lem : carried_records g ≡ new_records (carrying_of g) 0 0 (records_of g)
  unfolding records_in
  carried_records_lem = rw was_written

  -- they start where the instructions were moved to
  pub carried_places : places_of (carried_records g) (length (carried g)) ≡ (carrying_of g).moved
  unfolding carried
  carried_places =
      ap (λ (rs : List (List ℕ)). places_of rs (length (carried g))) carried_records_lem
      ∙ ((let q : length (carried g) ≡ 0 + length (carried g) = omega arith in ap (places_of (new_records (carrying_of g) 0 0 (records_of g))) q)
      ∙ result_places (carrying_of g) 0 0 (records_of g))

  -- "the result decodes under the second sheet"
  pub carried_decodes : decode_body (into g).types (last₂ g) (carried g) ≡ decoded (carried_records g)
  carried_decodes = was_written ∙ sym (ap decoded carried_records_lem)

  -- "to as many instructions"
  pub as_many_records : length (carried_records g) ≡ length (records_of g)
  as_many_records = ap length carried_records_lem ∙ new_count (carrying_of g) 0 0 (records_of g)

  -- the same of decoding as an operation, of the body and of the result
  pub body_decode : decode g.sheet₁ g.body ≡ produced (length (records_of g)) (join (records_of g)) []
  body_decode =
      read_decode (sheet_of g.sheet₁) g.sheet₁ g.bytes₁ g.ends₁ g.body (records_of g) refl accepted.read₁ accepted.short accepted.was_decoded

  pub carried_decode : decode g.sheet₂ (carried g) ≡ produced (length (records_of g)) (join (carried_records g)) []
  carried_decode =
      read_decode (sheet_of g.sheet₂) g.sheet₂ g.bytes₂ g.ends₂ (carried g) (carried_records g) refl accepted.read₂ accepted.small carried_decodes
      ∙ ap (λ (n : ℕ). produced n (join (carried_records g)) []) as_many_records

  -- "instruction by instruction both have the same meaning"
  pub carried_means : Bytes g.body → meanings (into g) (length (carried g)) (carried_records g) ≡ meanings (from g) (length g.body) (records_of g)
  carried_means b =
      ap (λ (places : List ℕ). meanings_from (into g) places (carried_records g)) carried_places
      ∙ (ap (meanings_from (into g) (carrying_of g).moved) carried_records_lem
      ∙ same_meanings (carrying_of g) (rising g accepted) (last₁ g) (last₂ g) (sound₁ g accepted) (sound₂ g accepted) 0 0
      (decoding_bounded (from g).types (last₁ g) g.body b (stands g accepted)) refl accepted.first_passed accepted.second_passed)

  -- and every operand stands for something
  pub carried_says : all_mean (meanings (from g) (length g.body) (records_of g)) ≡ true
  carried_says =
      all_mean_lem (carrying_of g) (rising g accepted) (last₁ g) (last₂ g) (sound₁ g accepted) (sound₂ g accepted) 0 (records_of g) accepted.first_passed accepted.second_passed

  -- the result is made of bytes
  pub carried_bytes : Bytes (carried g)
  unfolding carried
  carried_bytes = bytes_new (carrying_of g) (last₂ g) (sound₂ g accepted).byte 0 (known g accepted)
