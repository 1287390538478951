-- The three listing operations, with their refusals in document 01's order. Assumes nothing.
use Rattle.std.specs.Prelude.{List, [], ◌∷◌, ℕ, ltb, length}
use Rattle.lists.specs.Choice.{pick}
use Rattle.spec_body.specs.Decode.{decode_body}
use Rattle.spec_body.specs.Function.{in_area, function_body, function_size}
use Rattle.answers.specs.Outcome.{Outcome, measured}
use Rattle.limits.specs.Limits.{body_limit, listing_limit}
use Rattle.answers.specs.Outcome.Outcome.{refused_with}
use Rattle.answers.specs.declared.refusal.Refusal.TheVariants.{TooLarge, NoFunction}
use Rattle.spec_inputs.specs.Inputs.{under_inputs}
use Rattle.spec_listing.specs.Options.{Options}
use Rattle.spec_listing.specs.Listing.{Listed, list_decoded}
use Rattle.spec_listing.specs.Listing.Listed.{listed, not_listed}
use Rattle.spec_listing.specs.Module.{Area, list_all}

-- "then 3, 18, 19": a listing is limited, and needs label entries
unfoldable pub list_outcome : Listed → Outcome
list_outcome (listed t entries) = measured listing_limit (entries ∷ []) t
list_outcome (not_listed x) = refused_with x

-- a body
unfoldable pub list : Options → List ℕ → List ℕ → List ℕ → List ℕ → Outcome
list o text bytes ends body =
    let rest = under_inputs text bytes ends λ e last. list_outcome (list_decoded o e [] (decode_body e.types last body)) in
    pick (ltb body_limit (length body)) (refused_with TooLarge) rest

-- a function: "20 and then 18 of its body", then as a body
unfoldable pub list_function : Options → List ℕ → List ℕ → List ℕ → Area → ℕ → Outcome
list_function o text bytes ends a id = under_inputs text bytes ends λ e last.
    let body = list_decoded o e [] (decode_body e.types last (function_body a.functions a.bytes a.base id)) in
    pick (in_area a.functions a.bytes a.base id)
    (pick (ltb body_limit (function_size a.functions id)) (refused_with TooLarge) (list_outcome body)) (refused_with (NoFunction id))

-- a module: "18 and 19 of the whole listing come last"
unfoldable pub list_module : Options → List ℕ → List ℕ → List ℕ → Area → Outcome
list_module o text bytes ends a = under_inputs text bytes ends λ e last. list_outcome (list_all o e last a)
