-- What the desk program prints for a job (document 01, 'Around the core'). Assumes nothing.
use Rattle.std.specs.Prelude.{true, List, [], ◌∷◌, ◌++◌, ℕ, ltb, length, drop, get_or}
use Rattle.limits.specs.Limits.{job_limit, job_output, job_labels}
use Rattle.lists.specs.Choice.{pick}
use Rattle.lists.specs.Text.{text}
use Rattle.spec_numbers.specs.Print.{decimal, padded, hex_upper}
use Rattle.spec_sheet.specs.Sheet.{type_rows, largest}
use Rattle.spec_body.specs.Decode.{decode_body}
use Rattle.answers.specs.Report.{Report, shortage}
use Rattle.answers.specs.Refusals.{refusal_report}
use Rattle.answers.specs.Outcome.{Outcome, Space, produced, needed, is_short}
use Rattle.answers.specs.declared.refusal.Refusal.TheVariants.{Malformed, TooLarge}
use Rattle.answers.specs.Outcome.Outcome.{result, refused_with}
use Rattle.spec_listing.specs.Options.{Options}
use Rattle.spec_listing.specs.Listing.{list_decoded}
use Rattle.spec_listing.specs.Operation.{list_outcome}
use Rattle.spec_inputs.specs.Inputs.{under_table, context_of}
use Rattle.spec_hasm.specs.Assemble.{assemble_text, assemble_entries}
use Rattle.spec_hasm.specs.Operation.{assemble_outcome}
use Rattle.spec_carry.specs.Cases.{unless_case}
use Rattle.spec_carry.specs.Carry as carrying
use Rattle.spec_carry.specs.Carry.{table_cases}
use Rattle.spec_job.specs.Job.{JobInputs, JobRead, read_job}
use Rattle.spec_job.specs.Job.JobRead.{list_job, assemble_job, carry_job, bad_line}

-- "default shows offsets, labels and texts"
abbrev pub default_options : Options
default_options = record { show_offsets = true; show_labels = true; resolve_strings = true }

-- the listing that a job asks for: 17, then as listing a body
unfoldable pub list_under : List ℕ → JobInputs → List ℕ → Outcome
list_under s e body =
    let under = context_of s e.opcodes e.bytes e.ends in
    under_table e.bytes e.ends (list_outcome (list_decoded default_options under [] (decode_body (type_rows e.opcodes) (largest e.opcodes) body)))

-- the body that a job's text is assembled to: 17, then as assembling a text
unfoldable pub assemble_under : List ℕ → JobInputs → List ℕ → Outcome
assemble_under s e t =
    let under = context_of s e.opcodes e.bytes e.ends in
    under_table e.bytes e.ends (assemble_outcome (assemble_entries under t) (assemble_text under t))

-- the body that a job's body is carried to: 17 (first table, then second), then as carrying a body. The names of both sheets are
-- places of the job
unfoldable pub carry_under : List ℕ → JobInputs → JobInputs → List ℕ → Outcome
carry_under s e f body =
    let from = context_of s e.opcodes e.bytes e.ends in
    let into = context_of s f.opcodes f.bytes f.ends in
    unless_case (table_cases body e.bytes e.ends f.bytes f.ends) (carrying.carry_under from into (largest e.opcodes) body)

-- a job by its lines
unfoldable pub job_run : List ℕ → JobRead → Outcome
job_run s (list_job e body) = list_under s e body
job_run s (assemble_job e at) = assemble_under s e (drop at s)
job_run s (carry_job e f body) = carry_under s e f body
job_run s (bad_line line) = refused_with (Malformed line)

-- "A refusal prints `refused=N place=P operand=Q`"; "each printed line ends in LF"
unfoldable pub refused_text : Report → List ℕ
refused_text r =
    text "refused=" ++ decimal r.number ++ text " place=" ++ decimal r.place ++ text " operand=" ++ decimal r.operand ++ text "\n"

-- "Printed hex is upper-case", two digits a byte
unfoldable pub hex_of : List ℕ → List ℕ
hex_of [] = []
hex_of (b ∷ bs) = padded 2 (hex_upper b) ++ hex_of bs

-- "it prints `body=` and hex"
unfoldable pub body_text : List ℕ → List ℕ
body_text bs = text "body=" ++ hex_of bs ++ text "\n"

-- how a job's result is printed: a listing as it stands, a body in hex; carrying "prints the same"
unfoldable pub form_of : JobRead → List ℕ → List ℕ
form_of (list_job e body) t = t
form_of (assemble_job e at) t = body_text t
form_of (carry_job e f body) t = body_text t
form_of (bad_line line) t = t

-- "The program lends 65,536 output bytes and 4,096 label entries"
abbrev pub job_space : Space
job_space = record { outputs = job_output ∷ []; entries = job_labels ∷ [] }

-- a result in its form, "past either it prints 19"; the bytes lent are the operation's, before they are printed
unfoldable pub printed_of : (List ℕ → List ℕ) → Outcome → List ℕ
printed_of form (result r) = pick (is_short (needed r) job_space) (refused_text shortage) (form (get_or r.outputs 0 []))
printed_of form (refused_with x) = refused_text (refusal_report x)

abbrev pub printed_job : List ℕ → JobRead → List ℕ
printed_job s x = printed_of (form_of x) (job_run s x)

-- "After 18 of the job, the job's lines are checked for 1, numbered in the job, before 17"
unfoldable pub printed : List ℕ → List ℕ
printed s = pick (ltb job_limit (length s)) (refused_text (refusal_report TooLarge)) (printed_job s (read_job s))

-- the program's function as an operation: what is printed is its result, of any job
abbrev pub run : List ℕ → Outcome
run s = produced (length (printed s)) (printed s) []
