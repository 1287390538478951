-- How a module's listing ends. Assumes nothing.
use mathlib.Core.Path.{◌≡◌, refl, sym, ◌∙◌}
use mathlib.Core.List.{List, [], ◌∷◌}
use Prim.Native.Nat.{ℕ}
use lib.ListN.{length}
use Rattle.std.specs.Prelude.{Result, Ok, Err}
use Rattle.limits.specs.Limits.{listing_limit}
use Rattle.answers.specs.Answers.{answer_report}
use Rattle.answers.specs.Outcome.{Outcome, Ended}
use Rattle.answers.specs.declared.failure.Failure.{Failure}
use Rattle.answers.specs.declared.failure.Failure.TheVariants.{Refused}
use Rattle.answers.specs.declared.refusal.Refusal.{Refusal}
use Rattle.spec_inputs.specs.Context.{Context}
use Rattle.spec_inputs.specs.Inputs.{under_inputs}
use Rattle.spec_listing.specs.Options.{Options}
use Rattle.spec_listing.specs.Listing.{Listed}
use Rattle.spec_listing.specs.Listing.Listed.{not_listed}
use Rattle.spec_listing.specs.Module.{Area, list_all}
use Rattle.spec_listing.specs.Operation.{list_outcome, list_module}
use Rattle.operation.specs.Ends.{measured_of, left_by}
use Rattle.listing.specs.declared.body.Part.{Part}
use Rattle.listing.proofs.EndLaws.{settled, text_end, over_end}
use Rattle.list_module.specs.Modules.{ModuleWritten}
use Rattle.list_module.specs.Modules.ModuleWritten.{within, over, ended}

-- a module's listing that was written and measured
pub module_end : (before now after : List ℕ) (p : Part) (lent : ℕ) (r : Result ℕ Failure) {x : Listed} → r ≡ measured_of p.next listing_limit p.entries lent (length now) → after ≡ left_by r now
    → {w : Result Part Refusal} → w ≡ Ok p → ModuleWritten lent x before now w → Ended (list_outcome x) before (lent ∷ []) (left_by r after) (answer_report r)
module_end before now after p lent r a z h (within t m q e l c w) =
    let same : q ≡ p = cc (sym l ∙ h) in
    rw e (text_end before now after p lent r a z t (rw same at c) (rw same at w))
module_end before now after p lent r a z h (over t m q e l g k s) =
    let same : q ≡ p = cc (sym l ∙ h) in
    rw e (over_end before now after p lent r a z t m (rw same at g) k s)
module_end before now after p lent r a z h (ended f e l) = cc (sym l ∙ h)

-- the same, where what does not fit is not cleared yet
pub module_fits : (before now : List ℕ) (p : Part) (lent : ℕ) (r : Result ℕ Failure) {x : Listed} → r ≡ measured_of p.next listing_limit p.entries lent (length now)
    → {w : Result Part Refusal} → w ≡ Ok p → ModuleWritten lent x before now w → Ended (list_outcome x) before (lent ∷ []) (left_by r now) (answer_report r)
module_fits before now p lent r a h w = rw (settled r now (left_by r now) refl) at (module_end before now (left_by r now) p lent r a refl h w)

-- one that is refused
pub module_refused : {lent : ℕ} {x : Listed} {before now : List ℕ} {f : Refusal} {w : Result Part Refusal} → w ≡ Err f → ModuleWritten lent x before now w → x ≡ not_listed f
module_refused h (within t m q e l c w) = cc (sym l ∙ h)
module_refused h (over t m q e l g k s) = cc (sym l ∙ h)
module_refused {f = f} h (ended g e l) = let same : g ≡ f = cc (sym l ∙ h) in rw (sym same) e

-- the module's outcome under inputs that were read
abbrev pub module_under : Options → Area → Context → ℕ → Outcome
module_under o a e last = list_outcome (list_all o e last a)

pub module_is : (o : Options) (text bytes ends : List ℕ) (a : Area) → list_module o text bytes ends a ≡ under_inputs text bytes ends (module_under o a)
unfolding list_module
module_is o text bytes ends a = refl
