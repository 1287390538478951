-- Listing a body, by its length. Assumes nothing.
use mathlib.Core.Path.{◌≡◌}
use mathlib.Core.List.{List, []}
use Prim.Native.Nat.{ℕ, ◌<◌, ◌≤◌}
use lib.ListN.{length}
use borrow.Author.Tests.{lt-ltb, le-ltb}
use Rattle.spec_body.specs.Decode.{decode_body}
use Rattle.answers.specs.Outcome.{Outcome}
use Rattle.answers.specs.Outcome.Outcome.{refused_with}
use Rattle.answers.specs.declared.refusal.Refusal.TheVariants.{TooLarge}
use Rattle.spec_inputs.specs.Context.{Context}
use Rattle.spec_listing.specs.Options.{Options}
use Rattle.spec_listing.specs.Listing.{list_decoded}
use Rattle.spec_listing.specs.Operation.{list_outcome, list}
use Rattle.spec_inputs.specs.Inputs.{under_inputs}

-- a body that is too large, and one that is not
pub list_large : (o : Options) (text bytes ends body : List ℕ) → 65536 < length body → list o text bytes ends body ≡ refused_with TooLarge
unfolding list
list_large o text bytes ends body h = rw (lt-ltb 65536 (length body) h)

abbrev pub body_under : Options → List ℕ → Context → ℕ → Outcome
body_under o body e last = list_outcome (list_decoded o e [] (decode_body e.types last body))

pub list_small : (o : Options) (text bytes ends body : List ℕ) → length body ≤ 65536 → list o text bytes ends body ≡ under_inputs text bytes ends (body_under o body)
unfolding list
list_small o text bytes ends body h = rw (le-ltb 65536 (length body) h)
