-- What a job that carries a body prints. Assumes nothing.
use mathlib.Core.Path.{◌≡◌, refl, ap, sym, ◌∙◌}
use mathlib.Core.Bool.{true}
use mathlib.Core.List.{List, [], ◌∷◌}
use Prim.Native.Nat.{ℕ, ◌≤◌}
use native.Mathlib.Omega.{arith}
use lib.ListN.{length, take}
use Rattle.limits.specs.Limits.{job_output, job_labels}
use Rattle.answers.specs.Report.{Report, zeros}
use Rattle.answers.specs.Refusals.{refusal_report}
use Rattle.answers.specs.Outcome.{Outcome, Ended}
use Rattle.answers.proofs.OutcomeLaws.{refused_end}
use Rattle.answers.specs.declared.refusal.Refusal.{Refusal}
use Rattle.spec_sheet.specs.Line.{Op}
use Rattle.spec_sheet.specs.Sheet.{type_rows, info_rows, largest}
use Rattle.spec_inputs.specs.Context.{context_from}
use Rattle.spec_carry.specs.Cases.{unless_case}
use Rattle.spec_carry.specs.Carry as carrying
use Rattle.spec_carry.specs.Carry.{table_cases}
use Rattle.spec_job.specs.Job.{JobInputs, inputs_at, with_body, with_second}
use Rattle.spec_job.specs.Job.JobRead.{carry_job}
use Rattle.spec_job.specs.Printed.{carry_under, job_run, body_text, form_of, printed_of, printed_job}
use Rattle.spec_job.proofs.JobLaws.{second_body}
use Rattle.carry.specs.Inputs.{on_inputs}
use Rattle.std.proofs.Common.{Result, Ok, Err}
use Rattle.job.specs.declared.reader.InputsRead.{InputsRead}
use Rattle.job.specs.Prints.{Prints, answer_text}
use Rattle.job.proofs.ReadLaws.{BodyWas, InputsWas}
use Rattle.job.proofs.PrintLaws.{same_print}
use Rattle.job.proofs.AnswerLaws.{carry_sound, answer_told}
use Rattle.job.proofs.ListLaws.{same_form}
use Rattle.job.proofs.RunLaws.{inputs_prints}

-- under string tables one of which is refused, and under good ones
module _ (job bytes ends bytes₂ ends₂ body : List ℕ) (os os₂ : List Op) (before entries after : List ℕ) (r : Report) (i : Result (Unit {0}) Refusal) (look : (rest : Outcome) → unless_case (table_cases body bytes ends bytes₂ ends₂) rest ≡ on_inputs i rest) where
  abbrev own : JobInputs
  own = record { opcodes = os; bytes = bytes; ends = ends }

  abbrev own₂ : JobInputs
  own₂ = record { opcodes = os₂; bytes = bytes₂; ends = ends₂ }

  pub carry_refused : (x : Refusal) → i ≡ Err x → r ≡ refusal_report x → after ≡ zeros before → Ended (carry_under job own own₂ body) before entries after r
  unfolding carry_under on_inputs
  carry_refused x q p z = refused_end _ x before entries after r (look _ ∙ rw q refl) p z

  pub carry_ready : (types ops types₂ ops₂ : List (List ℕ)) (last : ℕ) {u : Unit {0}} → i ≡ Ok u → types ≡ type_rows os → ops ≡ info_rows os → last ≡ largest os → types₂ ≡ type_rows os₂ → ops₂ ≡ info_rows os₂
      → Ended (carrying.carry_under (context_from job types ops bytes ends) (context_from job types₂ ops₂ bytes₂ ends₂) last body) before entries after r → Ended (carry_under job own own₂ body) before entries after r
  unfolding carry_under on_inputs
  carry_ready types ops types₂ ops₂ last q t o l t₂ o₂ d = rw (look _, q) (rw (sym t, sym o, sym l, sym t₂, sym o₂) d)

-- a body that is carried
pub carried_prints : (job : List ℕ) (e f : JobInputs) (body before out : List ℕ) (answer : Report) → length before ≡ job_output → Ended (carry_under job e f body) before (job_labels ∷ []) out answer
    → {before' after : List ℕ} {r : ℕ} → Prints (answer_text true answer out) before' after r → Prints (printed_of body_text (carry_under job e f body)) before' after r
carried_prints job e f body before out answer room d p = same_print (answer_told true body_text (λ t. refl) before out room answer _ (carry_sound job e f body) d) p

-- one that was read from the job
pub carry_body_prints : (job : List ℕ) (at line : ℕ) (e f : JobInputs) {out part before after : List ℕ} {n r : ℕ} (b : BodyWas (with_body job at line) out n) → part ≡ take n out → n ≤ length out
    → Prints (printed_of body_text (carry_under job e f part)) before after r → Prints (printed_job job (with_body job at line (carry_job e f))) before after r
unfolding job_run form_of
carry_body_prints job at line e f {out} {part} {before} {after} {n} {r} b q l w =
    let s : take n out ≡ b.body = ap (λ (k : ℕ). take k out) b.count ∙ b.stored (omega (arith, b.count)) in
    let w' : Prints (printed_of body_text (carry_under job e f b.body)) before after r = rw (sym (q ∙ s)) w in
    rw (b.goes_on (carry_job e f)) (same_print (same_form body_text (form_of (carry_job e f b.body)) (λ t. refl) (carry_under job e f b.body)) w')

-- second inputs that were read
module _ (job : List ℕ) (at line : ℕ) {types ops : List (List ℕ)} {bytes ends : List ℕ} {read : InputsRead} (w : InputsWas (inputs_at job at line) types ops bytes ends read) (h : length job ≤ 65536) where
  pub second_prints : (e : JobInputs) (texts tableEnds : List ℕ) → texts ≡ take read.size bytes → tableEnds ≡ take read.count ends → read.size ≤ length bytes → read.count ≤ length ends
      → (before after : List ℕ) (r : ℕ)
      → ((os : List Op) → types ≡ type_rows os → ops ≡ info_rows os → Prints (printed_job job (with_body job read.end read.line (carry_job e (record { opcodes = os; bytes = texts; ends = tableEnds })))) before after r)
      → Prints (printed_job job (with_second job at line e)) before after r
  second_prints e texts tableEnds p q l n before after r k =
      inputs_prints job at line w h (λ (f : JobInputs). with_body job read.end read.line (carry_job e f)) (with_second job at line e) (second_body job at line e w.of read.end read.line w.is_inputs) texts tableEnds p q l n before after r (λ os t o a. k os t o)
