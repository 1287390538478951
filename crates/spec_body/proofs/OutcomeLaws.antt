-- The round trips of the whole operations, under a text that is read as a sheet with good rows. Assumes nothing.
use mathlib.Core.Path.{◌≡◌, refl, ap, sym, ◌∙◌}
use mathlib.Core.Bool.{Bool, true, false}
use mathlib.Core.List.{List, []}
use Prim.Native.Nat.{ℕ, ◌-◌, ◌*◌, ◌/◌, ◌≤◌}
use native.Mathlib.Omega.{arith}
use lib.ListN.{length, drop, length-take}
use borrow.Author.Tests.{lt-ltb, le-ltb}
use Rattle.lists.specs.Choice.{pick}
use Rattle.lists.specs.Scan.{Bytes}
use Rattle.lists.proofs.Tests.{by_leb}
use Rattle.spec_sheet.specs.Sheet.{Sheet, SheetRead, sheet_of, type_rows, largest}
use Rattle.spec_sheet.specs.Sheet.SheetRead.{sheet, malformed}
use Rattle.spec_body.specs.Record.{join}
use Rattle.spec_body.specs.Decode.{Decoded, decode_body}
use Rattle.spec_body.specs.Decode.Decoded.{decoded, not_decoded}
use Rattle.spec_body.specs.Encode.{Encoded, encode_records}
use Rattle.spec_body.specs.Encode.Encoded.{encoded, not_encoded}
use Rattle.spec_body.specs.Function.{in_area, function_body, function_size, function_offset}
use Rattle.spec_body.specs.Recode.{recoded}
use Rattle.spec_body.specs.Operation.{decode_outcome, decode, function_outcome, decode_function, encode_outcome, encode}
use Rattle.limits.specs.Limits.{body_limit}
use Rattle.answers.specs.Outcome.{Outcome, produced, measured}
use Rattle.spec_inputs.specs.Inputs.{under_sheet}
use Rattle.answers.specs.Outcome.Outcome.{refused_with}
use Rattle.answers.proofs.OutcomeLaws.{not_refused, same_result}
use Rattle.answers.specs.declared.refusal.Refusal.TheVariants.{NoFunction}
use Rattle.spec_body.proofs.DecodeLaws.{body_whole, length_join}
use Rattle.spec_body.proofs.StartLaws.{record_count}
use Rattle.spec_body.proofs.RowLaws.{GoodRows, good_length}
use Rattle.spec_body.proofs.ReencodeLaws.{reencoded}
use Rattle.spec_body.proofs.RedecodeLaws.{redecoded}
use Rattle.spec_body.proofs.LimitLaws.{recoded_count}

-- what results of decoding and of encoding are
pub decoded_result : {P : Type 0} (d : Decoded) (words : List ℕ) (n : ℕ) → decode_outcome d ≡ produced n words []
    → ((rs : List (List ℕ)) → d ≡ decoded rs → join rs ≡ words → length rs ≡ n → P) → P
unfolding decode_outcome
decoded_result (decoded rs) words n e then = let q = same_result e in then rs refl q.output_is q.length_is
decoded_result (not_decoded x) words n e then = not_refused e

pub encoded_result : {P : Type 0} (d : Encoded) (bs : List ℕ) (n : ℕ) → encode_outcome d ≡ produced n bs []
    → (d ≡ encoded bs → length bs ≡ n → length bs ≤ body_limit → P) → P
unfolding encode_outcome measured
encoded_result (encoded cs) bs n e then =
    by_leb (length cs) body_limit
    (λ h. let q : produced (length cs) cs [] ≡ produced n bs [] = rw (le-ltb body_limit (length cs) h) at e in
    let s = same_result q in
    let x : cs ≡ bs = s.output_is in
    let y : length cs ≡ n = s.length_is in
    then (ap encoded x) (ap length (sym x) ∙ y) (rw x at h))
    (λ h. let q = rw (lt-ltb body_limit (length cs) h) at e in not_refused q)
encoded_result (not_encoded x) bs n e then = not_refused e

pub encode_outcome_lem : (bs : List ℕ) → length bs ≤ body_limit → encode_outcome (encoded bs) ≡ produced (length bs) bs []
unfolding encode_outcome measured
encode_outcome_lem bs h = rw (le-ltb body_limit (length bs) h)

-- what is done under a text has a sheet that was read
pub under_sheet_lem : {P : Type 0} (r : SheetRead) (then : List (List ℕ) → ℕ → Outcome) (words : List ℕ) (n : ℕ) → under_sheet r then ≡ produced n words []
    → ((sh : Sheet) (at : ℕ) → r ≡ sheet sh at → then (type_rows sh.opcodes) (largest sh.opcodes) ≡ produced n words [] → P) → P
unfolding under_sheet
under_sheet_lem (sheet sh at) then words n e go = go sh at refl e
under_sheet_lem (malformed k) then words n e go = not_refused e

-- decoding of a body that is short enough
pub decode_is : (text body : List ℕ) → length body ≤ body_limit → decode text body ≡ under_sheet (sheet_of text) (λ types last. decode_outcome (decode_body types last body))
unfolding decode
decode_is text body h = rw (le-ltb body_limit (length body) h)

pub decode_short : (text body words : List ℕ) (n : ℕ) → decode text body ≡ produced n words [] → length body ≤ body_limit
unfolding decode
decode_short text body words n e =
    by_leb (length body) body_limit (λ h. h) (λ h. let q = rw (lt-ltb body_limit (length body) h) at e in not_refused q)

-- what a result of decoding is made of
pub decode_made : {P : Type 0} (text body words : List ℕ) (n : ℕ) → decode text body ≡ produced n words []
    → ((sh : Sheet) (at : ℕ) (rs : List (List ℕ)) → length body ≤ body_limit → sheet_of text ≡ sheet sh at
    → decode_body (type_rows sh.opcodes) (largest sh.opcodes) body ≡ decoded rs → join rs ≡ words → length rs ≡ n → P)
    → P
decode_made text body words n e then =
    let h = decode_short text body words n e in
    under_sheet_lem (sheet_of text) _ words n (sym (decode_is text body h) ∙ e) λ sh at r d.
    decoded_result (decode_body (type_rows sh.opcodes) (largest sh.opcodes) body) words n d λ rs f j k.
    then sh at rs h r f j k

-- there are no more records than bytes
pub decode_count : (text body words : List ℕ) (n : ℕ) → decode text body ≡ produced n words [] → n ≤ length body
decode_count text body words n e =
    decode_made text body words n e λ sh at rs h r f j k.
    omega (arith, record_count (type_rows sh.opcodes) (largest sh.opcodes) body rs f)

-- a function that is decoded is its body decoded
in_area_lem : (t : Bool) (id : ℕ) {words : List ℕ} {n : ℕ} (o : Outcome) → pick t o (refused_with (NoFunction id)) ≡ produced n words [] → o ≡ produced n words []
in_area_lem true id o e = e
in_area_lem false id o e = not_refused e

body_short : (functions area : List ℕ) (base id : ℕ) → function_size functions id ≤ body_limit → length (function_body functions area base id) ≤ body_limit
body_short functions area base id h = omega (arith, length-take (function_size functions id) (drop (function_offset functions id - base) area))

pub function_body_lem : (text functions area : List ℕ) (base id : ℕ) (words : List ℕ) (n : ℕ) → decode_function text functions area base id ≡ produced n words []
    → decode text (function_body functions area base id) ≡ produced n words []
unfolding decode_function function_outcome under_sheet
function_body_lem text functions area base id words n e =
    under_sheet_lem (sheet_of text) _ words n e λ sh at r d.
    let q = in_area_lem (in_area functions area base id) id _ d in
    by_leb (function_size functions id) body_limit
    (λ h. decode_is text (function_body functions area base id) (body_short functions area base id h) ∙ rw r (rw (le-ltb body_limit (function_size functions id) h) at q))
    (λ h. let x = rw (lt-ltb body_limit (function_size functions id) h) at q in not_refused x)

-- the tables of a sheet that is read from a text are good
pub record GoodTable (types : List (List ℕ)) (last : ℕ) : Type 0 where
  pub rows : GoodRows types
  pub small : last ≤ 255

abbrev pub GoodSheet : List ℕ → Type 0
GoodSheet text = (sh : Sheet) (at : ℕ) → sheet_of text ≡ sheet sh at → GoodTable (type_rows sh.opcodes) (largest sh.opcodes)

module _ (text : List ℕ) (good : GoodSheet text) where
  -- what was decoded is encoded to the body
  pub decode_encode : (body words : List ℕ) (n : ℕ) → Bytes body → decode text body ≡ produced n words [] → encode text words ≡ produced (length body) body []
  unfolding encode under_sheet
  decode_encode body words n b e =
      decode_made text body words n e λ sh at rs h r f j k.
      let g = good sh at r in
      rw (r, sym j, reencoded (type_rows sh.opcodes) (largest sh.opcodes) body rs g.rows g.small b f) (encode_outcome_lem body h)

  -- what was encoded is decoded to the recoded records, as many as there were
  pub encode_decode : (sh : Sheet) (at : ℕ) (words bs : List ℕ) (n : ℕ) → sheet_of text ≡ sheet sh at → encode text words ≡ produced n bs []
      → decode text bs ≡ produced (length words / 20) (join (recoded (type_rows sh.opcodes) words)) []
  unfolding encode under_sheet decode_outcome
  encode_decode sh at words bs n r e =
      let g = good sh at r in
      encoded_result (encode_records (type_rows sh.opcodes) (largest sh.opcodes) words) bs n (rw r at e) λ f k h.
      decode_is text bs h ∙ rw (r, redecoded (type_rows sh.opcodes) (largest sh.opcodes) words bs g.rows g.small f, recoded_count (type_rows sh.opcodes) words)

  -- each record has 20 words
  pub decode_length : (body words : List ℕ) (n : ℕ) → decode text body ≡ produced n words [] → length words ≡ 20 * n
  decode_length body words n e =
      decode_made text body words n e λ sh at rs h r f j k.
      let g = good sh at r in
      omega (arith, ap length j, length_join (body_whole (type_rows sh.opcodes) (largest sh.opcodes) body rs (λ i l. good_length (g.rows i (omega (arith, g.small)))) f))
