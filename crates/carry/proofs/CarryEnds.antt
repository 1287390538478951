-- Carrying with its inputs: how it ends. Assumes nothing.
use mathlib.Core.Path.{◌≡◌, refl, ap, sym, ◌∙◌}
use mathlib.Core.Bool.{Bool, true, false}
use mathlib.Core.List.{List, []}
use Prim.Native.Nat.{ℕ, ◌≤◌}
use Rattle.std.specs.Prelude.{Result, Ok, Err}
use lib.ListN.{length, get_or}
use borrow.Author.Tests.{ltb-false}
use Rattle.lists.specs.Choice.{either}
use Rattle.lists.proofs.Tests.{true_not_false}
use Rattle.limits.specs.Limits.{body_limit, string_limit}
use Rattle.answers.specs.Report.{Report, zeros}
use Rattle.answers.specs.Refusals.{refusal_report}
use Rattle.answers.specs.Outcome.{Outcome, produced, Ended}
use Rattle.answers.specs.Outcome.Outcome.{refused_with}
use Rattle.answers.specs.declared.refusal.Refusal.{Refusal}
use Rattle.spec_sheet.specs.Sheet.{sheet_of}
use Rattle.spec_strings.specs.Table.{is_too_large}
use Rattle.spec_inputs.specs.Context.{context_from}
use Rattle.spec_carry.specs.Cases.{Case, unless_case}
use Rattle.spec_carry.specs.Carry.{Given, table_cases, input_cases, carry_cases, carried, largest_in, from, into, carry_under, carry}
use Rattle.spec_carry.proofs.CaseLaws.{Passed, result_passed, passed_head, passed_tail}
use Rattle.carry.specs.Inputs.{on_inputs, sheet_cases, SheetsRead}
use Rattle.carry.specs.Inputs.SheetsRead.{both_read, one_refused}
use Rattle.carry.specs.Ready.{ZerosBehind}
use Rattle.carry.proofs.RowLaws.{unless_then}
use Rattle.carry.proofs.TableLaws.{sheet_zeros, context_is}
use Rattle.carry.proofs.BodyLaws.{refused}

-- neither of two
either_left : (a b : Bool) → either a b ≡ false → a ≡ false
either_left true b e = true_not_false true refl e
either_left false b e = refl

module _ (g : Given) where
  abbrev tables : List Case
  tables = table_cases g.body g.bytes₁ g.ends₁ g.bytes₂ g.ends₂

  abbrev under : Outcome
  under = carry_under (from g) (into g) (largest_in (sheet_of g.sheet₁)) g.body

  -- the tables' cases, then the sheets', then carrying under both contexts
  carry_is : carry g ≡ unless_case tables (unless_case (sheet_cases g.sheet₁ g.sheet₂) under)
  unfolding carry input_cases carry_cases carried
  carry_is = unless_then (input_cases g) (carry_cases g) _ ∙ unless_then tables (sheet_cases g.sheet₁ g.sheet₂) _

  -- a table is refused
  pub tables_refused : {r : Result (Unit {0}) Refusal} {before room after : List ℕ} (x : Refusal) → ((rest : Outcome) → unless_case tables rest ≡ on_inputs r rest) → r ≡ Err x → after ≡ zeros before
      → Ended (carry g) before room after (refusal_report x)
  unfolding on_inputs
  tables_refused x h e z = refused x (carry_is ∙ (h _ ∙ ap (λ (q : Result (Unit {0}) Refusal). on_inputs q (unless_case (sheet_cases g.sheet₁ g.sheet₂) under)) e)) z

  module _ {r : Result (Unit {0}) Refusal} (h : (rest : Outcome) → unless_case tables rest ≡ on_inputs r rest) {u : Unit {0}} (e : r ≡ Ok u) where
    goes_on : (rest : Outcome) → unless_case tables rest ≡ rest
    unfolding on_inputs
    goes_on rest = h rest ∙ ap (λ (q : Result (Unit {0}) Refusal). on_inputs q rest) e

    -- the sizes are within their limits
    passed : Passed tables
    passed = result_passed tables (produced 0 [] []) _ (goes_on (produced 0 [] []))

    pub body_few : length g.body ≤ body_limit
    body_few = ltb-false body_limit (length g.body) (passed_head passed)

    pub ends_few : length g.ends₁ ≤ string_limit
    unfolding is_too_large
    ends_few = ltb-false string_limit (length g.ends₁) (either_left _ _ (passed_head (passed_tail passed)))

    pub ends₂_few : length g.ends₂ ≤ string_limit
    unfolding is_too_large
    ends₂_few = ltb-false string_limit (length g.ends₂) (either_left _ _ (passed_head (passed_tail (passed_tail passed))))

    module _ {types ops types₂ ops₂ : List (List ℕ)} {q : Result ℕ Refusal} where
      -- a sheet is refused
      pub sheets_refused : {before room after : List ℕ} (x : Refusal) → SheetsRead g.sheet₁ g.sheet₂ types ops types₂ ops₂ q → q ≡ Err x → after ≡ zeros before
          → Ended (carry g) before room after (refusal_report x)
      sheets_refused x (both_read a b c d l m y) w z = absurd (cc (sym y ∙ w))
      sheets_refused x (one_refused f m y) w z =
          let k : f ≡ x = cc (sym y ∙ w) in
          refused x (carry_is ∙ (goes_on _ ∙ (m under ∙ ap refused_with k))) z

      -- both were read
      pub read_zeros : (last : ℕ) → SheetsRead g.sheet₁ g.sheet₂ types ops types₂ ops₂ q → q ≡ Ok last → ((op : ℕ) → ZerosBehind (get_or types op [])) × ((op : ℕ) → ZerosBehind (get_or types₂ op []))
      read_zeros last (both_read a b c d l m y) w = ((λ op. rw a (sheet_zeros g.sheet₁ op)), (λ op. rw c (sheet_zeros g.sheet₂ op)))
      read_zeros last (one_refused f m y) w = absurd (cc (sym y ∙ w))

      pub read_ends : {before room after : List ℕ} {answer : Report} (last : ℕ) → SheetsRead g.sheet₁ g.sheet₂ types ops types₂ ops₂ q → q ≡ Ok last
          → Ended (carry_under (context_from g.sheet₁ types ops g.bytes₁ g.ends₁) (context_from g.sheet₂ types₂ ops₂ g.bytes₂ g.ends₂) last g.body) before room after answer
          → Ended (carry g) before room after answer
      read_ends last (both_read a b c d l m y) w f =
          let k : largest_in (sheet_of g.sheet₁) ≡ last = cc (sym y ∙ w) in
          rw (carry_is ∙ (goes_on _ ∙ m under), k, ← context_is (sheet_of g.sheet₁) g.sheet₁ g.bytes₁ g.ends₁, ← context_is (sheet_of g.sheet₂) g.sheet₂ g.bytes₂ g.ends₂)
          (rw (a, b, c, d) at f)
      read_ends last (one_refused x m y) w f = absurd (cc (sym y ∙ w))
