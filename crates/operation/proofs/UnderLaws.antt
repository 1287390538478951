-- Outcomes under inputs, case by case. Assumes nothing.
use mathlib.Core.Path.{◌≡◌, refl, ap, sym, ◌∙◌}
use mathlib.Core.List.{List}
use Prim.Native.Nat.{ℕ}
use Rattle.std.specs.Prelude.{Result, Ok, Err}
use native.Mathlib.Omega.{arith}
use Rattle.spec_sheet.specs.Sheet.{SheetRead, sheet_of}
use Rattle.answers.specs.Refusals.{refusal_report}
use Rattle.answers.specs.Outcome.{Outcome}
use Rattle.spec_inputs.specs.Inputs.{under_sheet, under_context, under_inputs}
use Rattle.answers.specs.Outcome.Outcome.{refused_with}
use Rattle.sheet.specs.Sheets.{sheet_answer, types_in, infos_in}
use Rattle.sheet.specs.declared.opcode.SheetRead.{SheetRead as Numbers}
use Rattle.sheet.proofs.SheetAnswers as answers
use Rattle.sheet.proofs.SheetAnswers.{few_opcodes}
use Rattle.operation.specs.Read.{rows_left, Under, SheetGiven, Given}
use Rattle.operation.specs.Read.Under.{ready, refused}
use Rattle.operation.specs.Tables.{table_check}
use Rattle.operation.proofs.TableLaws as tables
use Rattle.operation.proofs.TableLaws.{goes_on, rows_kept}
use Rattle.answers.specs.declared.refusal.Refusal.{Refusal}
use Rattle.answers.specs.declared.refusal.Refusal.TheVariants.{Malformed}

-- what follows a sheet that was read, and one that is malformed
module _ (x : SheetRead) (then : List (List ℕ) → ℕ → Outcome) where
  pub under_read : {r : Numbers} → sheet_answer x ≡ Ok r → under_sheet x then ≡ then (types_in x) r.largest
  unfolding under_sheet types_in
  under_read e = let w = answers.was_read x e in rw (w.is_sheet, w.last)

  pub under_none : {f : Refusal} → sheet_answer x ≡ Err f → under_sheet x then ≡ refused_with f
  unfolding under_sheet
  under_none e = let w = answers.was_malformed x e in rw w.is_malformed (ap refused_with (sym w.refusal_is))

-- a sheet that was read
module _ (text : List ℕ) (types₀ ops₀ types ops : List (List ℕ)) (t : types ≡ types_in (sheet_of text)) (o : ops ≡ infos_in (sheet_of text)) where
  pub was_read : {r : Numbers} → sheet_answer (sheet_of text) ≡ Ok r → SheetGiven text types₀ ops₀ types ops (Ok r.largest)
  unfolding under_context types_in infos_in
  was_read a bytes ends =
      let w = answers.was_read (sheet_of text) a in
      let e = w.is_sheet in
      ready w.of.opcodes (t ∙ ap types_in e) (o ∙ ap infos_in e) (omega (arith, w.last, few_opcodes text a)) (λ then. ap (λ (x : SheetRead). under_context x text bytes ends then) e) (ap Ok (sym w.last))

  -- and one that is malformed
  pub was_malformed : {f : Refusal} → sheet_answer (sheet_of text) ≡ Err f → SheetGiven text types₀ ops₀ types ops (Err f)
  unfolding under_context types_in infos_in rows_left refusal_report
  was_malformed a bytes ends =
      let w = answers.was_malformed (sheet_of text) a in
      let e = w.is_malformed in
      refused (Malformed w.line) (t ∙ ap types_in e) (o ∙ ap infos_in e) (λ then. ap (λ (x : SheetRead). under_context x text bytes ends then) e) (ap Err w.refusal_is)

-- the table's refusals come first
pub table_refused : {text bytes ends : List ℕ} {types ops : List (List ℕ)} (x : Refusal) → table_check bytes ends ≡ Err x → Given text bytes ends types ops types ops (Err x)
unfolding under_inputs
table_refused {bytes = bytes} {ends = ends} x e = refused x (rows_kept bytes ends x e _ _) (rows_kept bytes ends x e _ _) (λ then. tables.refused bytes ends x e _) refl

-- behind a good table the sheet decides
pub table_ready : {text bytes ends : List ℕ} {types₀ ops₀ types ops : List (List ℕ)} {r : Result ℕ Refusal} → table_check bytes ends ≡ Ok tt → SheetGiven text types₀ ops₀ types ops r → Given text bytes ends types₀ ops₀ types ops r
unfolding under_inputs
table_ready {text} {bytes} {ends} {types₀} {ops₀} {types} {ops} {r} e g = by_case (g bytes ends)
  where
    by_case : Under text bytes ends (under_context (sheet_of text) text bytes ends) types₀ ops₀ types ops r → Under text bytes ends (under_inputs text bytes ends) types₀ ops₀ types ops r
    by_case (ready os t o l k q) = ready os t o l (λ then. goes_on bytes ends e _ ∙ k then) q
    by_case (refused x t o k q) = refused x t o (λ then. goes_on bytes ends e _ ∙ k then) q
