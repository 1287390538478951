-- What holds of every refusal, and of what follows, holds of an outcome under inputs. Assumes nothing.
use mathlib.Core.Path.{◌≡◌, refl}
use mathlib.Core.Bool.{Bool, true, false}
use mathlib.Core.List.{List}
use Prim.Native.Nat.{ℕ}
use Rattle.lists.specs.Choice.{pick}
use Rattle.lists.specs.Found.{Found}
use Rattle.lists.specs.Found.Found.{found, missing}
use Rattle.answers.specs.Outcome.{Outcome}
use Rattle.answers.specs.Outcome.Outcome.{refused_with}
use Rattle.answers.specs.declared.refusal.Refusal.{Refusal}
use Rattle.answers.specs.declared.refusal.Refusal.TheVariants.{Malformed, BadString, TooLarge}
use Rattle.spec_sheet.specs.Sheet.{SheetRead, Sheet, sheet_of, type_rows, largest}
use Rattle.spec_sheet.specs.Sheet.SheetRead.{sheet, malformed}
use Rattle.spec_strings.specs.Table.{is_too_large, fault}
use Rattle.spec_inputs.specs.Context.{Context}
use Rattle.spec_inputs.specs.Inputs.{unless_fault, under_table, under_sheet, under_context, under_inputs}

module _ (P : Outcome → Type 0) (refusals : (f : Refusal) → P (refused_with f)) where
  pub unless_refused : (b : Bool) (f : Refusal) {x : Outcome} → P x → P (pick b (refused_with f) x)
  unless_refused true f p = refusals f
  unless_refused false f p = p

  pub under_table_lem : (bytes ends : List ℕ) {x : Outcome} → P x → P (under_table bytes ends x)
  unfolding under_table unless_fault
  under_table_lem bytes ends {x} p = unless_refused (is_too_large bytes ends) TooLarge (unless_fault_lem (fault bytes ends))
    where
      unless_fault_lem : (f : Found) → P (unless_fault f x)
      unless_fault_lem (found id) = refusals (BadString id)
      unless_fault_lem missing = p

  pub under_sheet_lem : (text : List ℕ) (then : List (List ℕ) → ℕ → Outcome)
      → ((sh : Sheet) (at : ℕ) → sheet_of text ≡ sheet sh at → P (then (type_rows sh.opcodes) (largest sh.opcodes))) → P (under_sheet (sheet_of text) then)
  unfolding under_sheet
  under_sheet_lem text then p = by_sheet (sheet_of text) refl
    where
      by_sheet : (r : SheetRead) → sheet_of text ≡ r → P (under_sheet r then)
      by_sheet (sheet sh at) e = p sh at e
      by_sheet (malformed line) e = refusals (Malformed line)

  pub under_inputs_lem : (text bytes ends : List ℕ) (then : Context → ℕ → Outcome) → ((e : Context) (last : ℕ) → P (then e last)) → P (under_inputs text bytes ends then)
  unfolding under_inputs under_context
  under_inputs_lem text bytes ends then p = under_table_lem bytes ends (by_sheet (sheet_of text))
    where
      by_sheet : (r : SheetRead) → P (under_context r text bytes ends then)
      by_sheet (sheet sh at) = p _ _
      by_sheet (malformed line) = refusals (Malformed line)
