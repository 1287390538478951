-- A function of an area. Assumes nothing.
use Rattle.std.specs.Prelude.{List, [], ℕ, Result, Ok, Err}
use Rattle.lists.specs.Scan.{part}
use Rattle.answers.specs.Outcome.{Outcome}
use Rattle.answers.specs.Outcome.Outcome.{refused_with}
use Rattle.spec_body.specs.Decode.{decode_body}
use Rattle.spec_inputs.specs.Context.{Context}
use Rattle.spec_listing.specs.Options.{Options}
use Rattle.spec_listing.specs.Listing.{list_decoded}
use Rattle.spec_listing.specs.Module.{Area}
use Rattle.spec_listing.specs.Operation.{list_outcome}
use Rattle.answers.specs.declared.refusal.Refusal.{Refusal}
use Rattle.operation.specs.declared.area.Function.{Function}

-- the area that the functions are given part by part
abbrev pub area_of : List ℕ → List ℕ → ℕ → Area
area_of functions bytes base = record { functions = functions; bytes = bytes; base = base }

-- the outcome of a function by where it lies, under inputs that were read: "20 and then 18 of its body", then as a body
unfoldable pub function_under : Options → List ℕ → Result Function Refusal → Context → ℕ → Outcome
function_under o area (Ok f) e last = list_outcome (list_decoded o e [] (decode_body e.types last (part area f.start f.size)))
function_under o area (Err x) e last = refused_with x
