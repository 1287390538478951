-- Bytes in hex, and how much of a text is printed. Assumes nothing.
use mathlib.Core.Path.{◌≡◌, refl, ap, sym, ◌∙◌}
use mathlib.Core.Bool.{Bool, true, false}
use mathlib.Core.List.{List, [], ◌∷◌, ◌++◌, append_assoc, append-nil}
use Prim.Native.Nat.{ℕ, ◌+◌, ◌*◌, ◌^◌, ◌<◌, ◌≤◌}
use native.Mathlib.Omega.{arith}
use lib.ListN.{length, get_or, take, length-append}
use lib.Seq.{take-suc, take_all, length-take-le}
use borrow.Author.Tests.{eq-eqb, ne_eqb}
use native.Mathlib.Numerals.{add-one}
use Rattle.lists.specs.Text.{text}
use Rattle.lists.specs.Write.{Put}
use Rattle.lists.proofs.Writes.{◌then◌, same_piece}
use Rattle.spec_numbers.specs.Print.{decimal, padded, hex_upper}
use Rattle.spec_numbers.proofs.PrintLaws.{decimal_length, padded_length, hex_upper_few}
use Rattle.spec_job.specs.Printed.{job_run, refused_text, hex_of, body_text, form_of, printed_of, printed_job}
use Rattle.limits.specs.Limits.{job_output}
use Rattle.answers.specs.Report.{Report}
use Rattle.answers.specs.Refusals.{refusal_report}
use Rattle.answers.specs.declared.refusal.Refusal.{Refusal}
use Rattle.answers.specs.declared.refusal.Refusal.TheVariants.{Malformed}
use Rattle.job.specs.Prints.{Prints, answer_text}
use Rattle.spec_job.specs.Job.{JobRead}
use Rattle.spec_job.specs.Job.JobRead.{bad_line}

-- one byte more
pub hex_more : (s : List ℕ) (b : ℕ) → hex_of (s ++ (b ∷ [])) ≡ hex_of s ++ padded 2 (hex_upper b)
unfolding hex_of
hex_more [] b = append-nil (padded 2 (hex_upper b))
hex_more (a ∷ s) b = ap (λ (l : List ℕ). padded 2 (hex_upper a) ++ l) (hex_more s b) ∙ sym (append_assoc (padded 2 (hex_upper a)) (hex_of s) (padded 2 (hex_upper b)))

pub hex_none : hex_of [] ≡ []
unfolding hex_of
hex_none = refl

pair_length : (b : ℕ) → b < 256 → length (padded 2 (hex_upper b)) ≡ 2
pair_length b h =
    let wide : b < 2 ^ 64 = omega arith in
    let two : b < 16 ^ 2 = omega arith in
    padded_length 2 (hex_upper b) (hex_upper_few 1 b wide two)

pub hex_longer : (s : List ℕ) (b i : ℕ) → b < 256 → length (hex_of s) ≡ 2 * i → length (hex_of (s ++ (b ∷ []))) ≡ 2 * (i + 1)
hex_longer s b i h e = ap length (hex_more s b) ∙ omega (arith, e, length-append (hex_of s) (padded 2 (hex_upper b)), pair_length b h)

-- the loop over bytes
module _ (s : List ℕ) (i : ℕ) {out₀ out : List ℕ} {at k : ℕ} (w : Put out₀ at (hex_of (take i s)) out k) (l : length (hex_of (take i s)) ≡ 2 * i) where
  pub hex_turn : {out' : List ℕ} {k' : ℕ} → i < length s → get_or s i 0 < 256 → Put out k (padded 2 (hex_upper (get_or s i 0))) out' k'
      → Put out₀ at (hex_of (take (i + 1) s)) out' k' × (length (hex_of (take (i + 1) s)) ≡ 2 * (i + 1))
  hex_turn h b p =
      let next : take (i + 1) s ≡ take i s ++ (get_or s i 0 ∷ []) = rw add-one (take-suc _ _ 0 h) in
      (same_piece (sym (ap hex_of next ∙ hex_more (take i s) (get_or s i 0))) (w then p), ap (λ (m : List ℕ). length (hex_of m)) next ∙ hex_longer (take i s) (get_or s i 0) i b l)

  pub hex_end : length s ≤ i → i ≤ length s → Put out₀ at (hex_of s) out k × (length (hex_of s) ≡ 2 * length s)
  hex_end h g =
      let all : take i s ≡ s = take_all _ _ h in
      (same_piece (ap hex_of all) w, sym (ap (λ (m : List ℕ). length (hex_of m)) all) ∙ (l ∙ omega arith))

pub body_length : (s : List ℕ) → length (hex_of s) ≡ 2 * length s → length (body_text s) ≡ 2 * length s + 6
unfolding body_text text
body_length s e = omega (arith, e, length-append (text "body=" ++ hex_of s) (text "\n"), length-append (text "body=") (hex_of s))

-- three numbers of at most 20 digits
refused_length : (p : Report) → length (refused_text p) ≤ 100
unfolding refused_text text
refused_length p =
    let a = text "refused=" ++ decimal p.number in
    let b = a ++ text " place=" ++ decimal p.place in
    let c = b ++ text " operand=" ++ decimal p.operand in
    omega (
      arith,
      length-append (text "refused=") (decimal p.number),
      length-append a (text " place="),
      length-append (a ++ text " place=") (decimal p.place),
      length-append b (text " operand="),
      length-append (b ++ text " operand=") (decimal p.operand),
      length-append c (text "\n"),
      decimal_length p.number,
      decimal_length p.place,
      decimal_length p.operand,
    )

pub refusal_prints : {before after : List ℕ} {r : ℕ} (p : Report) → Put before 0 (refused_text p) after r → Prints (refused_text p) before after r
refusal_prints p w = record { put = w; few = omega (arith, refused_length p) }

-- the same text by another name
pub same_print : {p q before after : List ℕ} {r : ℕ} → p ≡ q → Prints p before after r → Prints q before after r
same_print e w = rw e at w

-- a malformed line
pub line_prints : (job : List ℕ) {x : JobRead} {bad : ℕ} {before after : List ℕ} {r : ℕ} → x ≡ bad_line bad → Put before 0 (refused_text (refusal_report (Malformed bad))) after r → Prints (printed_job job x) before after r
unfolding job_run form_of printed_of
line_prints job {bad = bad} e w = rw e (refusal_prints (refusal_report (Malformed bad)) w)

-- an answer as it is printed
module _ (hex : Bool) (p : Report) (out before after : List ℕ) (r : ℕ) where
  pub prints_refusal : (p.number ≡ 0 → ⊥) → Put before 0 (refused_text p) after r → Prints (answer_text hex p out) before after r
  unfolding answer_text
  prints_refusal z w = rw (ne_eqb p.number 0 z) (refusal_prints p w)

  module _ (z : p.number ≡ 0) (front : List ℕ) (is_front : front ≡ take p.length out) (fits : p.length ≤ length out) (small : length out ≤ job_output) where
    size : length front ≤ job_output
    size = omega (arith, ap length is_front, length-take-le p.length out fits)

    pub prints_body : hex ≡ true → Put before 0 (body_text front) after r → length (body_text front) ≡ 2 * length front + 6 → Prints (answer_text hex p out) before after r
    unfolding answer_text
    prints_body h w k =
        let print : Prints (body_text front) before after r = record { put = w; few = omega (arith, k, size) } in
        rw (eq-eqb p.number 0 z, h) (rw is_front at print)

    pub prints_text : hex ≡ false → Put before 0 front after r → Prints (answer_text hex p out) before after r
    unfolding answer_text
    prints_text h w =
        let print : Prints front before after r = record { put = w; few = omega (arith, size) } in
        rw (eq-eqb p.number 0 z, h) (rw is_front at print)

-- an answer's text by its report
pub report_print : (hex : Bool) (p q : Report) (out : List ℕ) {before after : List ℕ} {r : ℕ} → p ≡ q → Prints (answer_text hex p out) before after r → Prints (answer_text hex q out) before after r
report_print hex p q out e w = rw e at w

-- a refusal of a malformed line
pub fault_prints : (job : List ℕ) {x : JobRead} {f : Refusal} {before after : List ℕ} {r : ℕ} → (line : ℕ) × (f ≡ Malformed line) × (x ≡ bad_line line) → Put before 0 (refused_text (refusal_report f)) after r → Prints (printed_job job x) before after r
fault_prints job b w = line_prints job b.2 (rw b.1 at w)
