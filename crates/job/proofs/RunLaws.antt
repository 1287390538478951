-- What is printed for a job, from its first line on. Assumes nothing.
use mathlib.Core.Path.{◌≡◌, refl, ap, sym, ◌∙◌}
use mathlib.Core.Bool.{false}
use mathlib.Core.List.{List, [], ◌++◌}
use Prim.Native.Nat.{ℕ, ◌+◌, ◌<◌, ◌≤◌}
use native.Mathlib.Nat.{zero-add}
use native.Mathlib.Omega.{arith}
use borrow.Author.Tests.{lt-ltb, le-ltb}
use lib.ListN.{length, take, drop, replicate}
use Rattle.lists.specs.Write.{Put}
use Rattle.lists.proofs.Writes.{put_fits, kept_length}
use Rattle.answers.specs.Report.{zeros, written}
use Rattle.spec_sheet.specs.Line.{Op}
use Rattle.spec_sheet.specs.Sheet.{type_rows, info_rows, largest}
use Rattle.spec_job.specs.Job.{JobInputs, JobRead, inputs_at, with_body, with_text, with_second, read_list, read_assemble, read_carry}
use Rattle.spec_job.specs.Job.InputsRead.{bad_inputs}
use Rattle.spec_job.specs.Job.JobRead.{list_job, bad_line}
use Rattle.spec_job.proofs.JobLaws.{list_bad, list_body, assemble_bad, assemble_text, carry_bad, carry_second}
use Rattle.spec_job.specs.Printed.{refused_text, printed_job, printed, run}
use Rattle.limits.specs.Limits.{job_limit}
use Rattle.answers.specs.Refusals.{refusal_report}
use Rattle.answers.specs.Outcome.{exceeds, Ended}
use Rattle.answers.proofs.OutcomeLaws.{small_end, result_end}
use Rattle.answers.specs.declared.refusal.Refusal.TheVariants.{TooLarge}
use Rattle.job.specs.ReaderAnswers.{asked, read_work}
use Rattle.job.specs.declared.reader.Work.{Work}
use Rattle.job.specs.declared.reader.Work.TheVariants as works
use Rattle.job.specs.declared.reader.Asked.{Asked}
use Rattle.job.specs.declared.reader.InputsRead.{InputsRead}
use Rattle.job.proofs.AskedLaws.{read_as, read_as_lem}
use Rattle.job.specs.Run.{run_report}
use Rattle.std.proofs.Common.{Option, Some, None}
use Rattle.job.specs.Prints.{Prints}
use Rattle.job.proofs.PrintLaws.{refusal_prints}
use Rattle.answers.specs.declared.refusal.Refusal.{Refusal}
use Rattle.job.proofs.ReadLaws.{BadLine, InputsWas, inputs_held}

-- inputs that were read, and what is read behind them
module _ (job : List ℕ) (start line : ℕ) {types ops : List (List ℕ)} {bytes ends : List ℕ} {read : InputsRead} (w : InputsWas (inputs_at job start line) types ops bytes ends read) (h : length job ≤ 65536) where
  pub inputs_prints : (x : JobInputs → JobRead) (whole : JobRead) → whole ≡ x w.of → (texts tableEnds : List ℕ) → texts ≡ take read.size bytes → tableEnds ≡ take read.count ends → read.size ≤ length bytes → read.count ≤ length ends
      → (before after : List ℕ) (r : ℕ)
      → ((os : List Op) → types ≡ type_rows os → ops ≡ info_rows os → read.largest ≡ largest os → Prints (printed_job job (x (record { opcodes = os; bytes = texts; ends = tableEnds }))) before after r)
      → Prints (printed_job job whole) before after r
  inputs_prints x whole e texts tableEnds p q l n before after r k =
      let held = inputs_held job start line w h texts tableEnds p q l n in
      rw e (rw held at (k w.of.opcodes w.held.type_rows_are w.held.info_rows_are w.largest_is))

module _ (job : List ℕ) (start : ℕ) {types ops : List (List ℕ)} {bytes ends : List ℕ} {read : InputsRead} (w : InputsWas (inputs_at job start 2) types ops bytes ends read) (h : length job ≤ 65536) where
  module _ (work : Work) (texts tableEnds : List ℕ) (p : texts ≡ take read.size bytes) (q : tableEnds ≡ take read.count ends) (l : read.size ≤ length bytes) (n : read.count ≤ length ends) (before after : List ℕ) (r : ℕ) where
    pub list_prints : work ≡ works.List
        → ((os : List Op) → types ≡ type_rows os → ops ≡ info_rows os → read.largest ≡ largest os → Prints (printed_job job (with_body job read.end read.line (list_job (record { opcodes = os; bytes = texts; ends = tableEnds })))) before after r)
        → Prints (printed_job job (read_work work job start)) before after r
    unfolding read_work
    list_prints e k =
        rw e (inputs_prints job start 2 w h (λ (f : JobInputs). with_body job read.end read.line (list_job f)) (read_list job start) (list_body job start w.of read.end read.line w.is_inputs) texts tableEnds p q l n before after r k)

    pub assemble_prints : work ≡ works.Assemble
        → ((os : List Op) → types ≡ type_rows os → ops ≡ info_rows os → Prints (printed_job job (with_text job read.end read.line (record { opcodes = os; bytes = texts; ends = tableEnds }))) before after r)
        → Prints (printed_job job (read_work work job start)) before after r
    unfolding read_work
    assemble_prints e k =
        rw e (inputs_prints job start 2 w h (with_text job read.end read.line) (read_assemble job start) (assemble_text job start w.of read.end read.line w.is_inputs) texts tableEnds p q l n before after r (λ os t o a. k os t o))

    pub carry_prints : work ≡ works.Carry
        → ((os : List Op) → types ≡ type_rows os → ops ≡ info_rows os → read.largest ≡ largest os → Prints (printed_job job (with_second job read.end read.line (record { opcodes = os; bytes = texts; ends = tableEnds }))) before after r)
        → Prints (printed_job job (read_work work job start)) before after r
    unfolding read_work
    carry_prints e k =
        rw e (inputs_prints job start 2 w h (with_second job read.end read.line) (read_carry job start) (carry_second job start w.of read.end read.line w.is_inputs) texts tableEnds p q l n before after r k)

-- a malformed line of the inputs
line_off : (job : List ℕ) (start line : ℕ) (work : Work) → inputs_at job start 2 ≡ bad_inputs line → read_work work job start ≡ bad_line line
unfolding read_work
line_off job start line works.List e = list_bad job start line e
line_off job start line works.Assemble e = assemble_bad job start line e
line_off job start line works.Carry e = carry_bad job start line e

pub inputs_off : (job : List ℕ) (start : ℕ) (work : Work) {f : Refusal} → BadLine f (λ line. inputs_at job start 2 ≡ bad_inputs line) → BadLine f (λ line. read_work work job start ≡ bad_line line)
inputs_off job start work b = (b.0, b.1, line_off job start b.0 work b.2)

-- what is printed for a job
module _ (job before after : List ℕ) (r : ℕ) where
  pub large_prints : job_limit < length job → Put before 0 (refused_text (refusal_report TooLarge)) after r → Prints (printed job) before after r
  unfolding printed
  large_prints h w = rw (lt-ltb job_limit (length job) h) (refusal_prints (refusal_report TooLarge) w)

  pub job_prints : length job ≤ job_limit → (a : Option Asked) → a ≡ asked job → Prints (printed_job job (read_as a job)) before after r → Prints (printed job) before after r
  unfolding printed
  job_prints h a q w = rw (le-ltb job_limit (length job) h, read_as_lem job, sym q) w

-- how the program's function ends
module _ (job before now : List ℕ) (k : ℕ) (w : Prints (printed job) before now k) where
  size : k ≡ length (printed job)
  size = omega (arith, w.put.next, w.few)

  nothing_needed : exceeds [] [] ≡ false
  unfolding exceeds
  nothing_needed = refl

  pub run_short : length now < k → (after : List ℕ) → after ≡ zeros now → Ended (run job) before [] after (run_report None)
  unfolding run_report
  run_short h after z =
      small_end (length (printed job)) (printed job) [] before [] (omega (arith, size, kept_length w.put)) after (z ∙ ap (λ (n : ℕ). replicate n 0) (kept_length w.put))

  pub run_done : k ≤ length now → Ended (run job) before [] now (run_report (Some k))
  unfolding run_report
  run_done h =
      let fits : 0 + length (printed job) ≤ length before = omega (arith, size, kept_length w.put) in
      let inside : length (printed job) ≤ length before = omega arith in
      let bytes : now ≡ written (printed job) before = w.put.bytes ∙ put_fits before 0 (printed job) fits ∙ ap (λ (n : ℕ). printed job ++ drop n before) (zero-add (length (printed job))) in
      rw size (result_end (length (printed job)) (printed job) [] before [] inside nothing_needed now bytes)
