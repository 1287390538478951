-- What reading inputs and a body answers and leaves in the lent arrays. Assumes nothing.
use Rattle.std.specs.Prelude.{◌≡◌, Option, Some, None, Result, Ok, Err, List, ℕ, length}
use Rattle.lists.specs.Choice.{pick}
use Rattle.lists.specs.Scan.{opens}
use Rattle.lists.specs.Text.{text}
use Rattle.spec_sheet.specs.Scan.{Step}
use Rattle.spec_sheet.specs.Scan.Step.{next, off}
use Rattle.spec_sheet.specs.Sheet.{type_rows, info_rows, largest}
use Rattle.answers.specs.declared.refusal.Refusal.{Refusal}
use Rattle.answers.specs.declared.refusal.Refusal.TheVariants.{Malformed}
use Rattle.spec_job.specs.Job as definition
use Rattle.spec_job.specs.Job.{JobInputs, JobRead, read_list, read_assemble, read_carry}
use Rattle.spec_job.specs.Job.InputsRead.{inputs, bad_inputs}
use Rattle.spec_job.specs.Job.JobRead.{bad_line}
use Rattle.job.specs.TableAnswers.{Opens}
use Rattle.job.specs.declared.reader.Work.{Work}
use Rattle.job.specs.declared.reader.Work.TheVariants as works
use Rattle.job.specs.declared.reader.Asked.{Asked}
use Rattle.job.specs.declared.reader.InputsRead.{InputsRead}

-- a job's first line says which it is
unfoldable pub asked : List ℕ → Option Asked
asked s =
    pick (opens (text "job=list\n") s) (Some (record { work = works.List; start = 9 }))
    (pick (opens (text "job=assemble\n") s) (Some (record { work = works.Assemble; start = 13 }))
    (pick (opens (text "job=carry\n") s) (Some (record { work = works.Carry; start = 10 })) None))

-- and how it is read behind that line
unfoldable pub read_work : Work → List ℕ → ℕ → JobRead
read_work works.List s at = read_list s at
read_work works.Assemble s at = read_assemble s at
read_work works.Carry s at = read_carry s at

-- what the lent arrays hold of the inputs: both tables by opcode, the strings' bytes and their ends
pub record Holds (e : JobInputs) (types infos : List (List ℕ)) (bytes ends : List ℕ) : Type 0 where
  pub type_rows_are : types ≡ type_rows e.opcodes
  pub info_rows_are : infos ≡ info_rows e.opcodes
  pub strings : Opens bytes e.bytes
  pub string_ends : Opens ends e.ends

-- inputs that evaluate to x were read, and r was answered: the place and line behind them, the largest opcode, the strings'
-- and their bytes' number
pub data InputsIn (x : definition.InputsRead) (types infos : List (List ℕ)) (bytes ends : List ℕ) (r : Result InputsRead Refusal) : Type 0 where
  whole : (e : JobInputs) (b line : ℕ) → x ≡ inputs e b line → r ≡ Ok (record { end = b; line = line; largest = largest e.opcodes; count = length e.ends; size = length e.bytes }) → Holds e types infos bytes ends → InputsIn x types infos bytes ends r
  faulty : (line : ℕ) → x ≡ bad_inputs line → r ≡ Err (Malformed line) → InputsIn x types infos bytes ends r

-- a body was read likewise; x continues with the body, as `withBody` does
pub data BodyIn (x : (List ℕ → JobRead) → JobRead) (out : List ℕ) (r : Result ℕ Refusal) : Type 0 where
  whole : (bs : List ℕ) → ((then : List ℕ → JobRead) → x then ≡ then bs) → r ≡ Ok (length bs) → Opens out bs → BodyIn x out r
  faulty : (line : ℕ) → ((then : List ℕ → JobRead) → x then ≡ bad_line line) → r ≡ Err (Malformed line) → BodyIn x out r

-- "`text=` instead of `body`, the text starting on the next line", by the reading of that line
unfoldable pub text_answer : Step → ℕ → Result ℕ Refusal
text_answer (next value at) line = Ok at
text_answer off line = Err (Malformed line)
