-- What the desk's operations answer and leave in a case's lent bytes. Assumes nothing.
use mathlib.Core.Path.{◌≡◌, refl, sym, ap, ◌∙◌}
use mathlib.Core.Bool.{Bool, true, false}
use mathlib.Core.List.{List, [], ◌∷◌}
use Prim.Native.Nat.{ℕ, ◌+◌, ◌-◌, ◌*◌, ◌/◌, ◌%◌, ◌<◌, ◌≤◌}
use native.Mathlib.Omega.{arith}
use borrow.Author.Tests.{eq-eqb, ne_eqb, lt-ltb, le-ltb, ltb-true}
use lib.Dec.{ltb}
use lib.ListN.{length, take, drop, get_or}
use lib.Seq.{take_at}
use Rattle.lists.specs.Scan.{part}
use Rattle.lists.specs.Write.{Put, put}
use Rattle.lists.proofs.Parts.{tail_part}
use Rattle.lists.proofs.Tests.{true_not_false}
use Rattle.spec_numbers.specs.LittleEndian.{le}
use Rattle.answers.specs.Report.{Report, success, shortage}
use Rattle.answers.specs.Outcome.{Outcome, Ended, report, outputs_after, is_short, sizes, exceeds}
use Rattle.answers.specs.Outcome as outcome
use Rattle.answers.specs.Numbers.{report_in}
use Rattle.answers.specs.declared.report.Numbers.{Numbers}
use Rattle.answers.proofs.OutcomeLaws.{HowEnded, how_ended, same_result, not_refused}
use Rattle.answers.proofs.OutcomeLaws.HowEnded.{was_refused, was_short, was_whole}
use Rattle.answers.proofs.OutcomeLaws.Sound.{whole_of_lem}
use Rattle.spec_body.specs.Operation.{decode, encode}
use Rattle.spec_hasm.specs.Operation.{assemble}
use Rattle.spec_job.specs.Printed as job
use Rattle.job.specs.Run.{run_report}
use Rattle.replay.specs.Words.{numbers_over, bytes_of}
use Rattle.replay.specs.Performs.{done, reported, broken, printed, ended, decoded_into, decoded, encoded, assembled_from, assembled, ran, part_performed, performed}
use Rattle.std.proofs.Common.{Ok, Option, Some, None}
use Rattle.answers.specs.Numbers.{numbers_of}
use Rattle.replay.proofs.WordLaws.{over_all, over_front}
use Rattle.replay.proofs.PerformLaws.{was_printed}

-- an operation of the desk ended
pub was_ended : (x : Outcome) (out entries : List ℕ) {after : List ℕ} {a : Numbers} → Ended x out entries after (report_in a) → done (Ok a) after ≡ ended x entries out
unfolding ended
was_ended x out entries {after} {a} e =
    let p : a ≡ numbers_of (report x (outcome.lent (out ∷ []) entries)) = ap numbers_of e.answer_is in
    let q : after ≡ get_or (outputs_after x (out ∷ []) entries) 0 [] = ap (λ (l : List (List ℕ)). get_or l 0 []) e.output_is in
    rw (p, q)

-- decoding into words that are written back, and into those of the lent bytes
module _ (sheet body lent : List ℕ) where
  pub words_decoded : (words : List ℕ) {after lent' : List ℕ} {a : Numbers} → Ended (decode sheet body) words [] after (report_in a) → lent' ≡ put lent 0 (bytes_of 8 after)
      → done (Ok a) lent' ≡ decoded_into sheet body lent words
  unfolding decoded_into
  words_decoded words e p = rw (sym (was_ended _ words [] e), p)

  pub decoded_large : 8192 < length lent / 8 → broken lent ≡ decoded sheet body lent
  unfolding decoded
  decoded_large h = rw (lt-ltb 8192 (length lent / 8) h)

  pub decoded_small : length lent / 8 ≤ 8192 → (old : List ℕ) → length old ≡ length lent / 8 → decoded_into sheet body lent (numbers_over 8 lent old) ≡ decoded sheet body lent
  unfolding decoded
  decoded_small h old e = rw (le-ltb 8192 (length lent / 8) h, over_all 8 lent old (omega arith), e)

-- encoding the input's words
module _ (sheet input lent : List ℕ) where
  pub encoded_cut : (length input % 8 ≡ 0 → ⊥) → broken lent ≡ encoded sheet input lent
  unfolding encoded
  encoded_cut n = rw (ne_eqb _ _ n)

  module _ (e : length input % 8 ≡ 0) where
    pub encoded_large : 8192 < length input / 8 → broken lent ≡ encoded sheet input lent
    unfolding encoded
    encoded_large h = rw (eq-eqb _ _ e, lt-ltb 8192 (length input / 8) h)

    pub encoded_small : length input / 8 ≤ 8192 → (old words : List ℕ) → length old ≡ 8192 → words ≡ numbers_over 8 input old
        → ended (encode sheet (take (length input / 8 - 0) words)) [] lent ≡ encoded sheet input lent
    unfolding encoded
    encoded_small h old words l w =
        let n : length input / 8 - 0 ≡ length input / 8 = omega arith in
        rw (w, n, over_front 8 input old (omega arith), eq-eqb _ _ e, le-ltb 8192 (length input / 8) h)

-- assembling behind the input's numbers
module _ (sheet rest ends : List ℕ) (first size entries : ℕ) (lent : List ℕ) (e : first ≡ 4 * length ends) where
  pub parts_short : length rest < first + size → broken lent ≡ assembled_from sheet rest (length ends) size entries lent
  unfolding assembled_from
  parts_short h = rw (lt-ltb (length rest) (4 * length ends + size) (omega arith))

  pub parts_whole : first + size ≤ length rest → (bytes ends' : List ℕ) → bytes ≡ part rest first size → ends' ≡ numbers_over 4 rest ends
      → ended (assemble sheet bytes ends' (part rest (first + size) (length rest - (first + size)))) (entries ∷ []) lent ≡ assembled_from sheet rest (length ends) size entries lent
  unfolding assembled_from
  parts_whole h bytes ends' b f = rw (b, f, over_all 4 rest ends (omega arith), tail_part rest (first + size), e, le-ltb (length rest) (4 * length ends + size) (omega arith))

-- a result that needs no entries is short only where the output is
past_output : (out t need : List ℕ) → need ≡ [] → is_short (record { outputs = sizes (t ∷ []); entries = need }) (outcome.lent (out ∷ []) []) ≡ true → length out < length t
unfolding is_short sizes exceeds
past_output out t need n h = by_case (ltb (length out) (length t)) refl
  where
    by_case : (b : Bool) → ltb (length out) (length t) ≡ b → length out < length t
    by_case true e = ltb-true (length out) (length t) e
    by_case false e = true_not_false _ (rw (n, e) at h) refl

-- a job's text, where it has room
module _ (s text after : List ℕ) (a : Option ℕ) (e : Ended (job.run s) text [] after (run_report a)) (room : length text ≡ 131078) where
  how : HowEnded (job.run s) text [] after (run_report a)
  how = how_ended (job.run s) text [] after (run_report a) (whole_of_lem (job.printed s) [] refl) e

  pub ran_done : {k n : ℕ} {out out' : List ℕ} {r : Numbers} → a ≡ Some k → Put out 0 (part after 0 k) out' n → r ≡ numbers_of (success n) → done (Ok r) out' ≡ ran s out
  unfolding ran run_report
  ran_done {k} {n} {out} {out'} {r} q p f = by_case how
    where
      by_case : HowEnded (job.run s) text [] after (run_report a) → done (Ok r) out' ≡ ran s out
      by_case (was_refused x y z) = not_refused (sym y)
      by_case (was_short t need y h z) = absurd (let w : success k ≡ shortage = ap run_report (sym q) ∙ z in let v : 0 ≡ 19 = ap (λ (x : Report). x.number) w in omega (arith, v))
      by_case (was_whole t need y h z w l) =
          let same : job.printed s ≡ t = (same_result y).output_is in
          let u : success k ≡ success (length t) = ap run_report (sym q) ∙ z in
          let m : k ≡ length t = ap (λ (x : Report). x.length) u in
          let front : part after 0 k ≡ job.printed s = rw (w, m, take_at t (drop (length t) text) (length t) refl) (sym same) in
          let small : length (job.printed s) ≤ 131078 = rw same (omega arith) in
          let g : done (Ok r) out' ≡ printed (part after 0 k) out = was_printed p f in
          rw (le-ltb 131078 (length (job.printed s)) small) (g ∙ ap (λ (x : List ℕ). printed x out) front)

  pub ran_short : a ≡ None → (out : List ℕ) → broken out ≡ ran s out
  unfolding ran run_report
  ran_short q out = by_case how
    where
      by_case : HowEnded (job.run s) text [] after (run_report a) → broken out ≡ ran s out
      by_case (was_refused x y z) = not_refused (sym y)
      by_case (was_whole t need y h z w l) = absurd (let v : shortage ≡ success (length t) = ap run_report (sym q) ∙ z in let u : 19 ≡ 0 = ap (λ (x : Report). x.number) v in omega (arith, u))
      by_case (was_short t need y h z) =
          let same : job.printed s ≡ t = (same_result y).output_is in
          let large : 131078 < length (job.printed s) = rw same (omega (arith, past_output text t need (sym (same_result y).entries_are) h)) in
          rw (lt-ltb 131078 (length (job.printed s)) large)

-- the input's three numbers: an input without them, too many strings, too many entries, and behind them the parts
module _ (sheet input lent : List ℕ) where
  pub no_numbers : length input < 12 → broken lent ≡ assembled sheet input lent
  unfolding assembled
  no_numbers h = rw (lt-ltb (length input) 12 h)

  module _ (h : 12 ≤ length input) {strings entries : ℕ} (a : strings ≡ le (part input 0 4)) (b : entries ≡ le (part input 8 4)) where
    pub many_strings : 64 < strings → broken lent ≡ assembled sheet input lent
    unfolding assembled
    many_strings l = rw (le-ltb (length input) 12 h, lt-ltb 64 (le (part input 0 4)) (omega (arith, a)))

    module _ (few : strings ≤ 64) where
      pub many_entries : 64 < entries → broken lent ≡ assembled sheet input lent
      unfolding assembled
      many_entries l = rw (le-ltb (length input) 12 h, le-ltb 64 (le (part input 0 4)) (omega (arith, a)), lt-ltb 64 (le (part input 8 4)) (omega (arith, b)))

      pub from_numbers : {size : ℕ} → size ≡ le (part input 4 4) → entries ≤ 64 → (n m : ℕ) → n ≡ strings → m ≡ entries
          → assembled_from sheet (part input 12 (length input - 12)) n size m lent ≡ assembled sheet input lent
      unfolding assembled
      from_numbers s l n m p q =
          rw (p, q, s, a, b, tail_part input 12, le-ltb (length input) 12 h, le-ltb 64 (le (part input 0 4)) (omega (arith, a)), le-ltb 64 (le (part input 8 4)) (omega (arith, b)))

-- an operation by its number
module _ (operation : ℕ) (sheet input lent : List ℕ) where
  pub decodes : operation ≡ 1 → decoded sheet input lent ≡ performed operation sheet input lent
  unfolding performed
  decodes e = rw e

  pub encodes : operation ≡ 2 → encoded sheet input lent ≡ performed operation sheet input lent
  unfolding performed
  encodes e = rw e

  pub assembles : operation ≡ 13 → assembled sheet input lent ≡ performed operation sheet input lent
  unfolding performed
  assembles e = rw e

  pub runs : operation ≡ 14 → ran input lent ≡ performed operation sheet input lent
  unfolding performed
  runs e = rw e

  pub does_part : (operation ≡ 1 → ⊥) → (operation ≡ 2 → ⊥) → (operation ≡ 13 → ⊥) → (operation ≡ 14 → ⊥) → part_performed operation input lent ≡ performed operation sheet input lent
  unfolding performed
  does_part a b c d = rw (ne_eqb _ _ a, ne_eqb _ _ b, ne_eqb _ _ c, ne_eqb _ _ d)
