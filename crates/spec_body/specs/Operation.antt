-- The operations on bodies and records, with their refusals in document 01's order. Assumes nothing.
use Rattle.std.specs.Prelude.{List, [], ℕ, ltb, length}
use Rattle.lists.specs.Choice.{pick}
use Rattle.limits.specs.Limits.{body_limit}
use Rattle.answers.specs.Outcome.{Outcome, produced, measured}
use Rattle.answers.specs.Outcome.Outcome.{refused_with}
use Rattle.answers.specs.declared.refusal.Refusal.TheVariants.{TooLarge, NoFunction}
use Rattle.spec_sheet.specs.Sheet.{sheet_of}
use Rattle.spec_inputs.specs.Inputs.{under_sheet}
use Rattle.spec_body.specs.Record.{join}
use Rattle.spec_body.specs.Decode.{Decoded, decode_body}
use Rattle.spec_body.specs.Decode.Decoded.{decoded, not_decoded}
use Rattle.spec_body.specs.Function.{in_area, function_body, function_size}
use Rattle.spec_body.specs.Encode.{Encoded, encode_records}
use Rattle.spec_body.specs.Encode.Encoded.{encoded, not_encoded}

-- decoding: "13 and 14 as met, then 19"; the length counts records
unfoldable pub decode_outcome : Decoded → Outcome
decode_outcome (decoded rs) = produced (length rs) (join rs) []
decode_outcome (not_decoded x) = refused_with x

-- "18 of inputs", then 1, then decoding
unfoldable pub decode : List ℕ → List ℕ → Outcome
decode text body =
    let rest = under_sheet (sheet_of text) λ types last. decode_outcome (decode_body types last body) in
    pick (ltb body_limit (length body)) (refused_with TooLarge) rest

-- a function: "20 and then 18 of its body", then decoding
unfoldable pub function_outcome : List (List ℕ) → ℕ → List ℕ → List ℕ → ℕ → ℕ → Outcome
function_outcome types last functions area base id =
    let body = decode_outcome (decode_body types last (function_body functions area base id)) in
    pick (in_area functions area base id) (pick (ltb body_limit (function_size functions id)) (refused_with TooLarge) body) (refused_with (NoFunction id))

-- 1 comes first
unfoldable pub decode_function : List ℕ → List ℕ → List ℕ → ℕ → ℕ → Outcome
decode_function text functions area base id = under_sheet (sheet_of text) λ types last. function_outcome types last functions area base id

-- encoding: by record, "then 18, 19"; the length counts bytes
unfoldable pub encode_outcome : Encoded → Outcome
encode_outcome (encoded bs) = measured body_limit [] bs
encode_outcome (not_encoded x) = refused_with x

unfoldable pub encode : List ℕ → List ℕ → Outcome
encode text words = under_sheet (sheet_of text) λ types last. encode_outcome (encode_records types last words)
