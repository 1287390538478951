-- What reading a body answers, case by case. Assumes nothing.
use mathlib.Core.Path.{◌≡◌, refl, ap}
use mathlib.Core.List.{List}
use Prim.Native.Nat.{ℕ, ◌+◌, ◌≤◌}
use native.Mathlib.Omega.{arith}
use lib.ListN.{length}
use Rattle.lists.specs.Text.{text}
use Rattle.lists.specs.Write.{top}
use Rattle.spec_job.specs.Table.{keyed_hex_at}
use Rattle.spec_job.specs.Job.{with_body}
use Rattle.spec_job.proofs.TableLaws.{keyed_spread}
use Rattle.spec_job.proofs.JobLaws.{body_off, body_whole, body_more}
use Rattle.job.specs.HexAnswers.{Lined}
use Rattle.std.specs.Option.{ok_or}
use Rattle.spec_sheet.specs.Scan.{Step}
use Rattle.spec_sheet.specs.Scan.Step.{next, off}
use Rattle.sheet.specs.Answers.{place_of}
use Rattle.job.specs.ReaderAnswers.{BodyIn, text_answer}
use Rattle.job.specs.ReaderAnswers.BodyIn.{whole, faulty}
use Rattle.std.proofs.Common.{Option, Some, None, Ok, Err}
use Rattle.answers.specs.declared.refusal.Refusal.TheVariants.{Malformed}
use Rattle.job.specs.declared.hex.HexRead.{HexRead as Numbers}
use Rattle.job.proofs.HexAnswerLaws.{Wrote, was_line, was_malformed, written_opens}

module _ (s : List ℕ) (at line : ℕ) (out out' : List ℕ) (r : Option Numbers) (t : Lined (keyed_hex_at (text "body=") s at) out 0 out' r) where
  pub off_line : r ≡ None → BodyIn (with_body s at line) out' (Err (Malformed line))
  off_line q = faulty line (λ then. body_off s at line then (was_malformed t q)) refl

  module _ {n : Numbers} (q : r ≡ Some n) where
    read : Wrote (keyed_hex_at (text "body=") s at) out 0 out' n.end n.next
    read = was_line t q

    -- a text has less than twice as many bytes as fit a number
    pub ends_text : length s ≤ top → n.end ≡ length s → BodyIn (with_body s at line) out' (Ok n.next)
    ends_text l h =
        let bs = read.bytes in
        let w = keyed_spread (text "body=") s at bs n.end read.is_hex in
        let k : n.next ≡ length bs = omega (arith, read.written.next, w.takes, w.inside_text, l) in
        whole bs (λ then. body_whole s at line then bs n.end read.is_hex h) (ap Ok k) (written_opens out bs out' n.next read.written)

    pub goes_on : (n.end ≡ length s → ⊥) → BodyIn (with_body s at line) out' (Err (Malformed (line + 1)))
    goes_on h = faulty (line + 1) (λ then. body_more s at line then read.bytes n.end read.is_hex h) refl

-- the place behind the line `text=`, or the line's refusal
pub text_or : (x : Step) (line : ℕ) → ok_or (place_of x) (Malformed line) ≡ text_answer x line
unfolding place_of text_answer
text_or (next v at) line = refl
text_or off line = refl
