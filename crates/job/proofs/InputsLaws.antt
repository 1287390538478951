-- What reading inputs answers, case by case. Assumes nothing.
use mathlib.Core.Path.{◌≡◌, refl, ap, ◌∙◌}
use mathlib.Core.List.{List}
use Prim.Native.Nat.{ℕ, ◌+◌, ◌-◌, ◌≤◌}
use native.Mathlib.Omega.{arith}
use lib.ListN.{length}
use Rattle.spec_sheet.specs.Sheet.{SheetRead, sheet_at, type_rows, info_rows}
use Rattle.spec_sheet.specs.Sheet as spec
use Rattle.spec_sheet.specs.Sheet.SheetRead.{sheet, malformed}
use Rattle.spec_job.specs.Table.{table_at}
use Rattle.spec_job.specs.Job.{inputs_at}
use Rattle.spec_job.proofs.JobLaws.{sheet_fault, inputs_whole, inputs_strings, inputs_sheet}
use Rattle.sheet.specs.Sheets.{sheet_answer, types_in, infos_in}
use Rattle.std.proofs.Common.{Result, Ok, Err}
use Rattle.answers.specs.declared.refusal.Refusal.{Refusal}
use Rattle.answers.specs.declared.refusal.Refusal.TheVariants.{Malformed}
use Rattle.sheet.proofs.SheetAnswers.{was_read, was_malformed}
use Rattle.job.specs.TableAnswers.{Tabled}
use Rattle.job.specs.ReaderAnswers.{InputsIn}
use Rattle.job.specs.ReaderAnswers.InputsIn.{whole, faulty}
use Rattle.sheet.specs.declared.opcode.SheetRead.{SheetRead as SheetNumbers}
use Rattle.job.specs.declared.table.TableRead.{TableRead as TableNumbers}
use Rattle.job.proofs.TableAnswerLaws.{was_table, was_fault}

types_of : (x : SheetRead) (sh : spec.Sheet) (b : ℕ) → x ≡ sheet sh b → types_in x ≡ type_rows sh.opcodes
unfolding types_in
types_of x sh b e = rw e

infos_of : (x : SheetRead) (sh : spec.Sheet) (b : ℕ) → x ≡ sheet sh b → infos_in x ≡ info_rows sh.opcodes
unfolding infos_in
infos_of x sh b e = rw e

-- a sheet is refused at one of its lines, and for nothing else
pub sheet_other : {P : Type 0} (s : List ℕ) (at : ℕ) {x : Refusal} → sheet_answer (sheet_at s at) ≡ Err x → ((k : ℕ) → x ≡ Malformed k → ⊥) → P
sheet_other s at {x} e n = let m = was_malformed (sheet_at s at) e in absurd (n m.line m.refusal_is)

pub fault_at : (s : List ℕ) (at : ℕ) {k : ℕ} → sheet_answer (sheet_at s at) ≡ Err (Malformed k) → sheet_at s at ≡ malformed k
fault_at s at {k} e =
    let m = was_malformed (sheet_at s at) e in
    let q : m.line ≡ k = cc m.refusal_is in
    m.is_malformed ∙ ap malformed q

pub line_inside : (s : List ℕ) (at : ℕ) {k : ℕ} → sheet_answer (sheet_at s at) ≡ Err (Malformed k) → (1 ≤ k) × (k ≤ 258)
line_inside s at {k} e = sheet_fault s at k (fault_at s at e)

module _ (s : List ℕ) (at line : ℕ) (types infos : List (List ℕ)) (bytes ends : List ℕ) where
  -- a sheet that was read, with its strings, and with a malformed line of them
  module _ {n : SheetNumbers} (e : sheet_answer (sheet_at s at) ≡ Ok n) (t : Result TableNumbers ℕ) (f : Tabled (table_at s n.end) bytes ends t) where
    pub read_whole : {m : TableNumbers} → t ≡ Ok m → types ≡ types_in (sheet_at s at) → infos ≡ infos_in (sheet_at s at)
        → InputsIn (inputs_at s at line) types infos bytes ends (Ok (record { end = m.end; line = line + 2 + n.count + 1 + m.count; largest = n.largest; count = m.count; size = m.size }))
    read_whole {m} q g h =
        let a = was_read (sheet_at s at) e in
        let w = was_table f q in
        let k : line + 2 + length a.of.opcodes + 1 + length w.string_ends ≡ line + 2 + n.count + 1 + m.count = omega (arith, a.lines, w.number) in
        whole (record { opcodes = a.of.opcodes; bytes = w.strings; ends = w.string_ends }) m.end (line + 2 + length a.of.opcodes + 1 + length w.string_ends)
        (inputs_whole s at line a.of n.end w.strings w.string_ends m.end a.is_sheet w.is_table)
        (rw (k, a.last, w.number, w.size))
        record { type_rows_are = g ∙ types_of _ a.of n.end a.is_sheet; info_rows_are = h ∙ infos_of _ a.of n.end a.is_sheet; strings = w.opens; string_ends = w.opens_ends }

    pub strings_off : {k : ℕ} → t ≡ Err k → InputsIn (inputs_at s at line) types infos bytes ends (Err (Malformed (line + 2 + n.count + k)))
    strings_off {k} q =
        let a = was_read (sheet_at s at) e in
        faulty (line + 2 + n.count + k) (inputs_strings s at line a.of n.end k a.is_sheet (was_fault f q) ∙ (rw a.lines)) refl

  -- a malformed sheet
  pub sheet_off : {k : ℕ} → sheet_answer (sheet_at s at) ≡ Err (Malformed k) → InputsIn (inputs_at s at line) types infos bytes ends (Err (Malformed (line + k - 1)))
  sheet_off {k} e = faulty (line + k - 1) (inputs_sheet s at line k (fault_at s at e)) refl
