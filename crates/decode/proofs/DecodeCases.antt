-- The operations of decoding, case by case. Assumes nothing.
use mathlib.Core.Path.{◌≡◌, refl}
use mathlib.Core.List.{List}
use Prim.Native.Nat.{ℕ, ◌≤◌, ◌<◌}
use lib.ListN.{length}
use borrow.Author.Tests.{lt-ltb, le-ltb}
use Rattle.lists.specs.Choice.{pick}
use Rattle.lists.specs.Scan.{part}
use Rattle.spec_sheet.specs.Sheet.{sheet_of}
use Rattle.spec_body.specs.Decode.{decode_body}
use Rattle.spec_body.specs.Function.{function_body}
use Rattle.spec_body.specs.Operation.{decode_outcome, function_outcome, decode}
use Rattle.spec_inputs.specs.Inputs.{under_sheet}
use Rattle.answers.specs.Outcome.{Outcome}
use Rattle.answers.specs.Outcome.Outcome.{refused_with}
use Rattle.answers.specs.declared.refusal.Refusal.TheVariants.{TooLarge, NoFunction}
use Rattle.operation.specs.Places.{located_of}
use Rattle.operation.specs.declared.area.Function.{Function}
use Rattle.answers.specs.declared.refusal.Refusal.{Refusal}
use Rattle.std.specs.Prelude.{Result, Ok, Err}
use Rattle.operation.proofs.AreaLaws.{by_place}

module _ (text body : List ℕ) where
  pub decode_large : 65536 < length body → decode text body ≡ refused_with TooLarge
  unfolding decode
  decode_large h = rw (lt-ltb 65536 (length body) h)

  pub decode_small : length body ≤ 65536 → decode text body ≡ under_sheet (sheet_of text) λ types last. decode_outcome (decode_body types last body)
  unfolding decode
  decode_small h = rw (le-ltb 65536 (length body) h)

-- a function's outcome, by where it lies
unfoldable pub outcome_at : List (List ℕ) → ℕ → List ℕ → Result Function Refusal → Outcome
outcome_at types last area (Ok f) = decode_outcome (decode_body types last (part area f.start f.size))
outcome_at types last area (Err x) = refused_with x

pub function_as : (types : List (List ℕ)) (last : ℕ) (functions area : List ℕ) (base id : ℕ) {place found : Result Function Refusal} → place ≡ located_of functions area base id → place ≡ found
    → function_outcome types last functions area base id ≡ outcome_at types last area found
unfolding function_outcome outcome_at
function_as types last functions area base id w e =
    let body = decode_outcome (decode_body types last (function_body functions area base id)) in
    by_place functions area base id (outcome_at types last area) (λ b c. pick b (pick c (refused_with TooLarge) body) (refused_with (NoFunction id))) w e refl refl (λ c. refl)
