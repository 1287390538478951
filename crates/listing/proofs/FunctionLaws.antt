-- One function of an area, by where it lies. Assumes nothing.
use mathlib.Core.Path.{◌≡◌, refl}
use mathlib.Core.List.{List, []}
use Prim.Native.Nat.{ℕ, ◌≤◌}
use native.Mathlib.Omega.{arith}
use lib.ListN.{length, drop, length-take}
use Rattle.lists.specs.Choice.{pick}
use Rattle.lists.specs.Scan.{part}
use Rattle.spec_body.specs.Decode.{decode_body}
use Rattle.spec_body.specs.Function.{function_body}
use Rattle.answers.specs.Outcome.{Outcome}
use Rattle.answers.specs.Outcome.Outcome.{refused_with}
use Rattle.answers.specs.declared.refusal.Refusal.TheVariants.{TooLarge, NoFunction}
use Rattle.spec_inputs.specs.Context.{Context}
use Rattle.spec_inputs.specs.Inputs.{under_inputs}
use Rattle.spec_listing.specs.Options.{Options}
use Rattle.spec_listing.specs.Listing.{list_decoded}
use Rattle.spec_listing.specs.Operation.{list_outcome, list_function}
use Rattle.operation.specs.Places.{located_of}
use Rattle.operation.proofs.AreaLaws.{by_place}
use Rattle.listing.specs.Functions.{area_of, function_under}

-- a part is not longer than asked
pub part_size : {t : List ℕ} (s : List ℕ) (at n : ℕ) → t ≡ part s at n → n ≤ 65536 → length t ≤ 65536
part_size s at n e h = rw e (omega (arith, length-take n (drop at s)))

pub function_as : (o : Options) (text bytes ends functions area : List ℕ) (base id : ℕ)
    → list_function o text bytes ends (area_of functions area base) id ≡ under_inputs text bytes ends (function_under o area (located_of functions area base id))
unfolding list_function function_under
function_as o text bytes ends functions area base id =
    let body : Context → ℕ → Outcome = λ e last. list_outcome (list_decoded o e [] (decode_body e.types last (function_body functions area base id))) in
    by_place functions area base id (λ p. under_inputs text bytes ends (function_under o area p))
    (λ b c. under_inputs text bytes ends λ e last. pick b (pick c (refused_with TooLarge) (body e last)) (refused_with (NoFunction id)))
    refl refl refl refl (λ c. refl)
