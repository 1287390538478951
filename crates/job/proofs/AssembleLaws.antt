-- What a job that assembles a text prints. Assumes nothing.
use mathlib.Core.Path.{◌≡◌, refl, ap, sym, ◌∙◌}
use mathlib.Core.Bool.{true}
use mathlib.Core.List.{List, [], ◌∷◌}
use Prim.Native.Nat.{ℕ, ◌-◌, ◌≤◌}
use native.Mathlib.Omega.{arith}
use lib.ListN.{length, take, drop, length-drop}
use lib.Seq.{take_all}
use Rattle.lists.specs.Text.{text}
use Rattle.limits.specs.Limits.{job_output, job_labels}
use Rattle.answers.specs.Report.{Report, zeros}
use Rattle.answers.specs.Refusals.{refusal_report}
use Rattle.answers.specs.Outcome.{Ended}
use Rattle.answers.proofs.OutcomeLaws.{refused_end}
use Rattle.answers.specs.declared.refusal.Refusal.{Refusal}
use Rattle.spec_sheet.specs.Line.{Op}
use Rattle.spec_sheet.specs.Scan.{Step, literal_at}
use Rattle.spec_sheet.specs.Scan.Step.{next, off}
use Rattle.spec_sheet.specs.Sheet.{type_rows, info_rows}
use Rattle.spec_inputs.specs.Context.{context_from}
use Rattle.spec_hasm.specs.Assemble.{assemble_text, assemble_entries}
use Rattle.spec_hasm.specs.Operation.{assemble_outcome}
use Rattle.spec_job.specs.Job.{JobInputs, with_text}
use Rattle.spec_job.specs.Job.JobRead.{assemble_job, bad_line}
use Rattle.spec_job.specs.Printed.{assemble_under, job_run, form_of, printed_job}
use Rattle.spec_job.proofs.TableLaws.{literal_inside}
use Rattle.spec_job.proofs.JobLaws.{text_starts, text_off}
use Rattle.std.proofs.Common.{Result, Ok, Err}
use Rattle.answers.specs.declared.refusal.Refusal.TheVariants.{Malformed}
use Rattle.operation.specs.Tables.{table_check}
use Rattle.operation.proofs.TableLaws.{goes_on, refused}
use Rattle.job.proofs.ReadLaws.{BadLine}
use Rattle.job.specs.ReaderAnswers.{text_answer}
use Rattle.job.specs.Prints.{Prints, answer_text}
use Rattle.job.proofs.PrintLaws.{same_print}
use Rattle.job.proofs.AnswerLaws.{assemble_sound, answer_told}

-- under a string table that is refused, and one that is not
module _ (job bytes ends source : List ℕ) (os : List Op) (before after : List ℕ) (r : Report) where
  abbrev own : JobInputs
  own = record { opcodes = os; bytes = bytes; ends = ends }

  pub assemble_refused : (entries : List ℕ) (x : Refusal) → table_check bytes ends ≡ Err x → r ≡ refusal_report x → after ≡ zeros before → Ended (assemble_under job own source) before entries after r
  unfolding assemble_under
  assemble_refused entries x stops q z = refused_end _ x before entries after r (refused bytes ends x stops _) q z

  pub assemble_ready : (types ops : List (List ℕ)) {n m : ℕ} → table_check bytes ends ≡ Ok tt → types ≡ type_rows os → ops ≡ info_rows os → n ≡ m
      → Ended (assemble_outcome (assemble_entries (context_from job types ops bytes ends) source) (assemble_text (context_from job types ops bytes ends) source)) before (n ∷ []) after r
      → Ended (assemble_under job own source) before (m ∷ []) after r
  unfolding assemble_under
  assemble_ready types ops w t o l e = rw (goes_on bytes ends w _) (rw (sym t, sym o, sym l) e)

-- where a text starts, from the answer
module _ (job : List ℕ) (at line : ℕ) where
  pub record TextWas (b : ℕ) : Type 0 where
    pub goes_on : (e : JobInputs) → with_text job at line e ≡ assemble_job e b
    pub inside : b ≤ length job

  pub was_text : (b : ℕ) → text_answer (literal_at (text "text=\n") job at) line ≡ Ok b → TextWas b
  unfolding text_answer text
  was_text b e = go (literal_at (text "text=\n") job at) refl
    where
      go : (x : Step) → literal_at (text "text=\n") job at ≡ x → TextWas b
      go (next v c) q =
          let w : ◌≡◌ {A = Result ℕ Refusal} (Ok c) (Ok b) = sym (rw q refl) ∙ e in
          let z : c ≡ b = cc w in
          record { goes_on = λ f. text_starts job at line f v b (q ∙ ap (next v) z); inside = rw (sym z) (literal_inside (text "text=\n") job at v c (omega arith) q) }
      go off q = absurd (let w : ◌≡◌ {A = Result ℕ Refusal} (Err (Malformed line)) (Ok b) = sym (rw q refl) ∙ e in let z : ◌≡◌ {A = ℕ} 0 1 = cc w in omega arith)

  pub was_bad_text : {f : Refusal} → text_answer (literal_at (text "text=\n") job at) line ≡ Err f → (e : JobInputs) → BadLine f (λ bad. with_text job at line e ≡ bad_line bad)
  unfolding text_answer
  was_bad_text {f} e g = go (literal_at (text "text=\n") job at) refl
    where
      go : (x : Step) → literal_at (text "text=\n") job at ≡ x → BadLine f (λ bad. with_text job at line g ≡ bad_line bad)
      go (next v c) q = absurd (let w : ◌≡◌ {A = Result ℕ Refusal} (Ok c) (Err f) = sym (rw q refl) ∙ e in let z : ◌≡◌ {A = ℕ} 0 1 = cc w in omega arith)
      go off q =
          let w : ◌≡◌ {A = Result ℕ Refusal} (Err (Malformed line)) (Err f) = sym (rw q refl) ∙ e in
          let z : f ≡ Malformed line = cc w in
          (line, z, text_off job at line g q)

  -- a text that was assembled, from the answer
  module _ (e : JobInputs) (b : ℕ) (w : TextWas b) (source before out : List ℕ) (is : source ≡ drop b job) (room : length before ≡ job_output) (answer : Report) where
    pub text_prints : (before' after : List ℕ) (r : ℕ) → Ended (assemble_under job e source) before (job_labels ∷ []) out answer → Prints (answer_text true answer out) before' after r
        → Prints (printed_job job (with_text job at line e)) before' after r
    unfolding job_run form_of
    text_prints before' after r d p =
        let d' : Ended (assemble_under job e (drop b job)) before (job_labels ∷ []) out answer = rw is at d in
        rw (w.goes_on e) (same_print (answer_told true (form_of (assemble_job e b)) (λ t. refl) before out room answer _ (assemble_sound job e (drop b job)) d') p)

-- a slice to its end
pub to_end : (b : ℕ) (s : List ℕ) → take (length s - b) (drop b s) ≡ drop b s
to_end b s = take_all (length s - b) (drop b s) (omega (arith, length-drop b s))
