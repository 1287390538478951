-- What a job that lists a body prints. Assumes nothing.
use mathlib.Core.Path.{◌≡◌, refl, ap, sym, ◌∙◌}
use mathlib.Core.Bool.{false}
use mathlib.Core.List.{List, [], ◌∷◌}
use Prim.Native.Nat.{ℕ, ◌≤◌}
use native.Mathlib.Omega.{arith}
use lib.ListN.{length, take, get_or}
use Rattle.lists.specs.Choice.{pick}
use Rattle.limits.specs.Limits.{job_output, job_labels}
use Rattle.answers.specs.Report.{Report, shortage, zeros}
use Rattle.answers.specs.Refusals.{refusal_report}
use Rattle.answers.specs.Outcome.{Outcome, needed, is_short, Ended}
use Rattle.answers.specs.Outcome.Outcome.{result, refused_with}
use Rattle.answers.proofs.OutcomeLaws.{refused_end}
use Rattle.answers.specs.declared.refusal.Refusal.{Refusal}
use Rattle.spec_sheet.specs.Line.{Op}
use Rattle.spec_sheet.specs.Sheet.{type_rows, info_rows, largest}
use Rattle.spec_body.specs.Decode.{decode_body}
use Rattle.spec_inputs.specs.Context.{context_from}
use Rattle.spec_listing.specs.Listing.{list_decoded}
use Rattle.spec_listing.specs.Operation.{list_outcome}
use Rattle.spec_job.specs.Job.{JobInputs, with_body}
use Rattle.spec_job.specs.Job.JobRead.{list_job}
use Rattle.spec_job.specs.Printed.{default_options, list_under, job_run, job_space, refused_text, form_of, printed_of, printed_job}
use Rattle.std.proofs.Common.{Ok, Err}
use Rattle.operation.specs.Tables.{table_check}
use Rattle.operation.proofs.TableLaws.{goes_on, refused}
use Rattle.job.proofs.ReadLaws.{BodyWas}
use Rattle.job.specs.Prints.{Prints, answer_text}
use Rattle.job.proofs.PrintLaws.{same_print}
use Rattle.job.proofs.AnswerLaws.{list_sound, answer_told}

-- under a string table that is refused, and one that is not
module _ (job bytes ends body : List ℕ) (os : List Op) (before entries after : List ℕ) (r : Report) where
  abbrev own : JobInputs
  own = record { opcodes = os; bytes = bytes; ends = ends }

  pub list_refused : (x : Refusal) → table_check bytes ends ≡ Err x → r ≡ refusal_report x → after ≡ zeros before → Ended (list_under job own body) before entries after r
  unfolding list_under
  list_refused x stops q z = refused_end _ x before entries after r (refused bytes ends x stops _) q z

  pub list_ready : (types ops : List (List ℕ)) (last : ℕ) → table_check bytes ends ≡ Ok tt → types ≡ type_rows os → ops ≡ info_rows os → last ≡ largest os
      → Ended (list_outcome (list_decoded default_options (context_from job types ops bytes ends) [] (decode_body types last body))) before entries after r → Ended (list_under job own body) before entries after r
  unfolding list_under
  list_ready types ops last w t o l e = rw (goes_on bytes ends w _) (rw (sym t, sym o, sym l) e)

-- a body that is listed
pub listing_prints : (job : List ℕ) (e : JobInputs) (body before out : List ℕ) (answer : Report) → length before ≡ job_output → Ended (list_under job e body) before (job_labels ∷ []) out answer
    → {before' after : List ℕ} {r : ℕ} → Prints (answer_text false answer out) before' after r → Prints (printed_of (λ (t : List ℕ). t) (list_under job e body)) before' after r
listing_prints job e body before out answer room d p = same_print (answer_told false (λ (t : List ℕ). t) (λ t. refl) before out room answer _ (list_sound job e body) d) p

-- two forms that print the same
pub same_form : (f g : List ℕ → List ℕ) → ((t : List ℕ) → f t ≡ g t) → (x : Outcome) → printed_of f x ≡ printed_of g x
unfolding printed_of
same_form f g h (result r) = ap (λ (s : List ℕ). pick (is_short (needed r) job_space) (refused_text shortage) s) (h (get_or r.outputs 0 []))
same_form f g h (refused_with x) = refl

-- one that was read from the job
pub body_prints : (job : List ℕ) (at line : ℕ) (e : JobInputs) {out part before after : List ℕ} {n r : ℕ} (b : BodyWas (with_body job at line) out n) → part ≡ take n out → n ≤ length out
    → Prints (printed_of (λ (t : List ℕ). t) (list_under job e part)) before after r → Prints (printed_job job (with_body job at line (list_job e))) before after r
unfolding job_run form_of
body_prints job at line e {out} {part} {before} {after} {n} {r} b q l w =
    let s : take n out ≡ b.body = ap (λ (k : ℕ). take k out) b.count ∙ b.stored (omega (arith, b.count)) in
    let w' : Prints (printed_of (λ (t : List ℕ). t) (list_under job e b.body)) before after r = rw (sym (q ∙ s)) w in
    rw (b.goes_on (list_job e)) (same_print (same_form (λ (t : List ℕ). t) (form_of (list_job e b.body)) (λ t. refl) (list_under job e b.body)) w')
