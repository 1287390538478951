-- The sheets of carrying, one after the other. Assumes nothing.
use mathlib.Core.Path.{◌≡◌, refl, ap, sym, ◌∙◌}
use mathlib.Core.List.{List, [], ◌∷◌}
use Prim.Native.Nat.{ℕ, ◌≤◌}
use native.Mathlib.Omega.{arith}
use Rattle.std.specs.Prelude.{Ok, Err}
use Rattle.answers.specs.Outcome.{Outcome}
use Rattle.answers.specs.Outcome.Outcome.{refused_with}
use Rattle.answers.specs.declared.refusal.Refusal.{Refusal}
use Rattle.spec_sheet.specs.Sheet.{SheetRead, sheet_of}
use Rattle.spec_sheet.specs.Sheet.SheetRead.{sheet, malformed}
use Rattle.sheet.specs.Sheets.{sheet_answer}
use Rattle.sheet.specs.declared.opcode.SheetRead.{SheetRead as Numbers}
use Rattle.sheet.proofs.SheetAnswers.{was_read, few_opcodes}
use Rattle.spec_carry.specs.Cases.{Case, unless_case}
use Rattle.spec_carry.specs.Carry.{sheet_case, largest_in}
use Rattle.carry.specs.Inputs.{sheet_cases}

-- a sheet that was read has no case, and one that is malformed is refused at its line
module _ (cs : List Case) (rest : Outcome) where
  no_case : (x : SheetRead) {n : Numbers} → sheet_answer x ≡ Ok n → unless_case (sheet_case x ∷ cs) rest ≡ unless_case cs rest
  unfolding sheet_answer sheet_case unless_case
  no_case (sheet sh at) e = refl
  no_case (malformed line) e = cc e

  its_case : (x : SheetRead) {f : Refusal} → sheet_answer x ≡ Err f → unless_case (sheet_case x ∷ cs) rest ≡ refused_with f
  unfolding sheet_answer sheet_case unless_case
  its_case (sheet sh at) e = cc e
  its_case (malformed line) e = ap refused_with (cc e)

module _ (sheet₁ sheet₂ : List ℕ) where
  pub first_malformed : {f : Refusal} → sheet_answer (sheet_of sheet₁) ≡ Err f → (rest : Outcome) → unless_case (sheet_cases sheet₁ sheet₂) rest ≡ refused_with f
  first_malformed e rest = its_case _ rest (sheet_of sheet₁) e

  pub second_malformed : {n : Numbers} {f : Refusal} → sheet_answer (sheet_of sheet₁) ≡ Ok n → sheet_answer (sheet_of sheet₂) ≡ Err f → (rest : Outcome) → unless_case (sheet_cases sheet₁ sheet₂) rest ≡ refused_with f
  second_malformed e f rest = no_case _ rest (sheet_of sheet₁) e ∙ its_case _ rest (sheet_of sheet₂) f

  pub both_good : {n m : Numbers} → sheet_answer (sheet_of sheet₁) ≡ Ok n → sheet_answer (sheet_of sheet₂) ≡ Ok m → (rest : Outcome) → unless_case (sheet_cases sheet₁ sheet₂) rest ≡ rest
  unfolding unless_case
  both_good e f rest = no_case (sheet_case (sheet_of sheet₂) ∷ []) rest (sheet_of sheet₁) e ∙ no_case [] rest (sheet_of sheet₂) f

-- the largest opcode, a byte
pub largest_read : (text : List ℕ) {n : Numbers} → sheet_answer (sheet_of text) ≡ Ok n → n.largest ≡ largest_in (sheet_of text)
unfolding largest_in
largest_read text e = let w = was_read (sheet_of text) e in rw w.is_sheet (sym w.last)

pub largest_byte : (text : List ℕ) {n : Numbers} → sheet_answer (sheet_of text) ≡ Ok n → largest_in (sheet_of text) ≤ 255
largest_byte text e = omega (arith, largest_read text e, few_opcodes text e)
