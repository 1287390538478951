-- How an operation ends under inputs that were read or refused. Assumes nothing.
use mathlib.Core.Path.{◌≡◌, refl, ap, sym, ◌∙◌}
use mathlib.Core.Bool.{Bool, true, false}
use mathlib.Core.List.{List, []}
use Prim.Native.Nat.{ℕ, ◌≤◌}
use native.Mathlib.Omega.{arith}
use lib.Dec.{ltb}
use lib.ListN.{length}
use borrow.Author.Tests.{ltb-false}
use Rattle.answers.specs.Report.{Report, zeros}
use Rattle.answers.specs.Refusals.{refusal_report}
use Rattle.answers.specs.Outcome.{Outcome, produced, Ended}
use Rattle.answers.specs.Outcome.Outcome.{refused_with}
use Rattle.answers.proofs.OutcomeLaws.{refused_end}
use Rattle.answers.specs.declared.refusal.Refusal.{Refusal}
use Rattle.answers.specs.declared.refusal.Refusal.TheVariants.{TooLarge}
use Rattle.spec_sheet.specs.Sheet.{largest}
use Rattle.spec_strings.specs.Table.{is_too_large}
use Rattle.spec_inputs.specs.Context.{Context}
use Rattle.spec_inputs.specs.Inputs.{under_table, under_inputs}
use Rattle.operation.specs.Read.{Given}
use Rattle.operation.specs.Read.Under.{ready, refused}
use Rattle.std.specs.Prelude.{Ok, Err}

many : (text bytes ends : List ℕ) (b : Bool) → ltb 65536 (length ends) ≡ b → (then : Context → ℕ → Outcome) → (under_inputs text bytes ends then ≡ refused_with TooLarge → ⊥) → length ends ≤ 65536
unfolding under_inputs under_table is_too_large
many text bytes ends true e then f = absurd (f (rw e))
many text bytes ends false e then f = ltb-false 65536 (length ends) e

module _ {text bytes ends : List ℕ} {types₀ ops₀ types ops : List (List ℕ)} where
  -- an operation goes on under inputs that were read
  pub read_on : {last : ℕ} {before entries after : List ℕ} {r : Report} (then : Context → ℕ → Outcome) → Given text bytes ends types₀ ops₀ types ops (Ok last)
      → Ended (then (record { sheet = text; types = types; infos = ops; bytes = bytes; ends = ends }) last) before entries after r → Ended (under_inputs text bytes ends then) before entries after r
  read_on {last = last} then (ready os t o l k q) e =
      let n : last ≡ largest os = cc q in
      rw (k then) (rw (sym t, sym o, sym n) e)
  read_on then (refused x t o k q) e = cc q

  -- and ends where they are refused
  pub refused_on : {x : Refusal} {before entries after : List ℕ} {r : Report} (then : Context → ℕ → Outcome) → Given text bytes ends types₀ ops₀ types ops (Err x) → r ≡ refusal_report x
      → after ≡ zeros before → Ended (under_inputs text bytes ends then) before entries after r
  refused_on then (ready os t o l k q) e z = cc q
  refused_on {x} then (refused y t o k q) e z =
      let same : y ≡ x = sym (cc q) in
      refused_end _ x _ _ _ _ (k then ∙ ap refused_with same) e z

  -- a table that is not refused has no more strings than 18 allows
  pub few_strings : {last : ℕ} → Given text bytes ends types₀ ops₀ types ops (Ok last) → length ends ≤ 65536
  few_strings (ready os t o l k q) =
      let then : Context → ℕ → Outcome = λ e n. produced 0 [] [] in
      many text bytes ends (ltb 65536 (length ends)) refl then λ h. let z : ◌≡◌ {A = ℕ} 0 1 = cc (sym (k then) ∙ h) in omega (arith, z)
  few_strings (refused x t o k q) = cc q
