-- What an operation's answer prints, from its outcome. Assumes nothing.
use mathlib.Core.Path.{◌≡◌, refl, ap, sym, ◌∙◌}
use mathlib.Core.Bool.{Bool, true, false}
use mathlib.Core.List.{List, [], ◌∷◌}
use Prim.Native.Nat.{ℕ, ◌≤◌}
use native.Mathlib.Omega.{arith}
use lib.ListN.{length, take}
use lib.Seq.{take-append_seam}
use borrow.Author.Tests.{ne_eqb}
use Rattle.lists.specs.Choice.{pick}
use Rattle.lists.specs.Found.{Found}
use Rattle.lists.specs.Found.Found.{found, missing}
use Rattle.limits.specs.Limits.{job_output, job_labels}
use Rattle.answers.specs.Report.{Report}
use Rattle.answers.specs.Numbers.{numbers_of}
use Rattle.answers.specs.declared.report.Numbers.{Numbers}
use Rattle.answers.specs.Refusals.{refusal_report}
use Rattle.answers.specs.Outcome.{Outcome, produced, sizes, lent, Ended}
use Rattle.answers.specs.Outcome.Outcome.{refused_with}
use Rattle.answers.proofs.NumberLaws.{number_some, no_length}
use Rattle.answers.proofs.OutcomeLaws.{Sound, measured_sound, HowEnded, how_ended, length_within}
use Rattle.answers.proofs.OutcomeLaws.Sound.{whole_of_lem, refusal_of}
use Rattle.answers.proofs.OutcomeLaws.HowEnded.{was_refused, was_short, was_whole}
use Rattle.answers.specs.declared.refusal.Refusal.{Refusal}
use Rattle.answers.specs.declared.refusal.Refusal.TheVariants.{BadString, TooLarge}
use Rattle.spec_sheet.specs.Sheet.{largest}
use Rattle.spec_strings.specs.Table.{is_too_large, fault}
use Rattle.spec_inputs.specs.Inputs.{context_of, unless_fault, under_table}
use Rattle.spec_inputs.specs.Context.{Context}
use Rattle.spec_body.specs.Decode.{decode_body}
use Rattle.spec_carry.specs.Cases.{Case, unless_case}
use Rattle.spec_carry.specs.Passes.{new_bytes}
use Rattle.spec_carry.specs.Carry as carrying
use Rattle.spec_carry.specs.Carry.{records_in}
use Rattle.spec_listing.specs.Listing.{Listed}
use Rattle.spec_listing.specs.Listing.Listed.{listed, not_listed}
use Rattle.spec_listing.specs.Operation.{list_outcome}
use Rattle.spec_hasm.specs.Assemble.{Assembled}
use Rattle.spec_hasm.specs.Assemble.Assembled.{assembled, not_assembled}
use Rattle.spec_hasm.specs.Operation.{assemble_outcome}
use Rattle.spec_job.specs.Job.{JobInputs}
use Rattle.spec_job.specs.Printed.{job_space, printed_of, list_under, assemble_under, carry_under}
use Rattle.job.specs.Prints.{in_form, answer_text}

-- the outcomes of jobs have one output that their length counts
pub listing_sound : (l : Listed) → Sound (list_outcome l)
unfolding list_outcome
listing_sound (listed t entries) = measured_sound _ _ t
listing_sound (not_listed x) = refusal_of x refl

pub body_sound : (entries : ℕ) (x : Assembled) → Sound (assemble_outcome entries x)
unfolding assemble_outcome
body_sound entries (assembled bs) = measured_sound _ _ bs
body_sound entries (not_assembled x) = refusal_of x refl

table_sound : (bytes ends : List ℕ) (x : Outcome) → Sound x → Sound (under_table bytes ends x)
unfolding under_table unless_fault
table_sound bytes ends x s = first (is_too_large bytes ends)
  where
    second : (f : Found) → Sound (unless_fault f x)
    second (found id) = refusal_of (BadString id) refl
    second missing = s

    first : (b : Bool) → Sound (pick b (refused_with TooLarge) (unless_fault (fault bytes ends) x))
    first true = refusal_of TooLarge refl
    first false = second (fault bytes ends)

pub list_sound : (job : List ℕ) (e : JobInputs) (body : List ℕ) → Sound (list_under job e body)
unfolding list_under
list_sound job e body = table_sound e.bytes e.ends _ (listing_sound _)

pub assemble_sound : (job : List ℕ) (e : JobInputs) (t : List ℕ) → Sound (assemble_under job e t)
unfolding assemble_under
assemble_sound job e t = table_sound e.bytes e.ends _ (body_sound _ _)

cases_sound : (cs : List Case) (x : Outcome) → Sound x → Sound (unless_case cs x)
unfolding unless_case
cases_sound [] x s = s
cases_sound (c ∷ cs) x s = go c.holds (cases_sound cs x s)
  where
    go : (b : Bool) → Sound (unless_case cs x) → Sound (pick b (refused_with c.refusal) (unless_case cs x))
    go true t = refusal_of c.refusal refl
    go false t = t

pub carried_sound : (a b : Context) (last : ℕ) (body : List ℕ) → Sound (carrying.carry_under a b last body)
carried_sound a b last body =
    let rs = records_in (decode_body a.types last body) in
    let bs = new_bytes (carrying.carrying a b (length body) rs) 0 rs in
    cases_sound _ (produced (length bs) bs (length rs ∷ [])) (whole_of_lem bs (length rs ∷ []) refl)

pub carry_sound : (job : List ℕ) (e f : JobInputs) (body : List ℕ) → Sound (carry_under job e f body)
unfolding carry_under
carry_sound job e f body = cases_sound _ _ (carried_sound (context_of job e.opcodes e.bytes e.ends) (context_of job f.opcodes f.bytes f.ends) (largest e.opcodes) body)

-- what is lent is the program's space
is_job_space : (out : List ℕ) → length out ≡ job_output → lent (out ∷ []) (job_labels ∷ []) ≡ job_space
unfolding sizes
is_job_space out h = rw h refl

-- an answer prints its outcome
module _ (hex : Bool) (form : List ℕ → List ℕ) (same : (t : List ℕ) → form t ≡ in_form hex t) (before out : List ℕ) (room : length before ≡ job_output) (r : Report) where
  told : (x : Outcome) → HowEnded x before (job_labels ∷ []) out r → answer_text hex r out ≡ printed_of form x
  unfolding answer_text printed_of
  told x (was_refused f q e) = rw (q, e, ne_eqb (refusal_report f).number 0 (λ z. omega (arith, z, number_some f))) refl
  told x (was_short t need q h e) = rw (q, e, rw (is_job_space before room) at h) refl
  told x (was_whole t need q h e w l) =
      let front : take (length t) out ≡ t = rw w (take-append_seam t _) in
      rw (q, e, rw (is_job_space before room) at h) (ap (in_form hex) front ∙ sym (same t))

  pub answer_told : (x : Outcome) → Sound x → Ended x before (job_labels ∷ []) out r → answer_text hex r out ≡ printed_of form x
  answer_told x s e = told x (how_ended x before _ out r s e)

-- an answer's length is within the lent output
pub told_length : (x : Outcome) (before entries out : List ℕ) (r : Report) → Sound x → Ended x before entries out r → r.length ≤ length before
told_length x before entries out r s e = length_within x before entries out r (how_ended x before entries out r s e)

pub refusal_length : (f : Refusal) (before : List ℕ) → (refusal_report f).length ≤ length before
refusal_length f before = omega (arith, no_length f)

-- the length that numbers tell is the report's
pub length_told : {answer : Report} {n : Numbers} → n ≡ numbers_of answer → n.length ≡ answer.length
length_told q = ap (λ (m : Numbers). m.length) q
