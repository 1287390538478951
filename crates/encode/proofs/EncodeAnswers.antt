-- What encoding answers and leaves in the lent space, case by case. Assumes nothing.
use mathlib.Core.Path.{◌≡◌, refl, ap, sym, ◌∙◌}
use mathlib.Core.List.{List, [], ◌++◌}
use Prim.Native.Nat.{ℕ, ◌+◌, ◌≤◌, ◌<◌}
use native.Mathlib.Omega.{arith}
use lib.ListN.{length, drop, replicate, length-replicate}
use borrow.Author.Tests.{lt-ltb}
use Rattle.lists.specs.Write.{Put}
use Rattle.lists.proofs.Writes.{put_fits, kept_length}
use Rattle.lists.proofs.Tests.{by_leb}
use Rattle.limits.specs.Limits.{body_limit}
use Rattle.answers.specs.Report.{zeros}
use Rattle.answers.specs.Outcome.{Outcome, measured, exceeds, Ended}
use Rattle.answers.specs.Outcome.Outcome.{refused_with}
use Rattle.answers.specs.declared.refusal.Refusal.{Refusal}
use Rattle.answers.specs.declared.refusal.Refusal.TheVariants as refusal
use Rattle.answers.proofs.OutcomeLaws.{refused_end, small_end, result_end}
use Rattle.spec_sheet.specs.Sheet.{sheet_of}
use Rattle.spec_body.specs.Encode.{Encoded, encode_records}
use Rattle.spec_body.specs.Encode.Encoded.{encoded}
use Rattle.spec_body.specs.Operation as operation
use Rattle.spec_body.specs.Operation.{encode_outcome}
use Rattle.spec_body.proofs.OutcomeLaws.{encode_outcome_lem}
use Rattle.operation.proofs.UnderLaws.{under_read, under_none}
use Rattle.sheet.specs.Sheets.{sheet_answer, types_in}
use Rattle.sheet.specs.declared.opcode.SheetRead.{SheetRead as Numbers}
use Rattle.answers.specs.Answers.{answer_report}
use Rattle.answers.specs.declared.failure.Failure.{Failure}
use Rattle.answers.specs.declared.failure.Failure.TheVariants.{Refused, Short}
use Rattle.operation.specs.Ends.{measured_of, left_by}
use Rattle.operation.proofs.EndLaws.{is_large, is_small, is_fit}
use Rattle.encode.specs.Encoding.{Encoding}
use Rattle.encode.specs.Encoding.Encoding.{all, refuses}
use Rattle.std.specs.Prelude.{Result, Ok, Err}

-- a refusal of any kind
pub refused : {o : Outcome} {f : Refusal} {out after : List ℕ} → o ≡ refused_with f → after ≡ zeros out → Ended o out [] after (answer_report (Err (Refused f)))
refused {o} {f} {out} {after} e z = refused_end o f out [] after _ e refl z

-- what was cleared is cleared once more
cleared_again : (now before after : List ℕ) → length now ≡ length before → after ≡ zeros now → zeros after ≡ zeros before
cleared_again now before after h e = ap (λ (n : ℕ). replicate n 0) (ap length e ∙ (length-replicate (length now) 0 ∙ h))

-- records that were written
record Written (x : Encoded) (out out' : List ℕ) (n : ℕ) : Type 0 where
  body : List ℕ
  is_body : x ≡ encoded body
  wrote : Put out 0 body out' n

module _ (x : Encoded) (out out' : List ℕ) (r : Result ℕ Refusal) (d : Encoding x out out' r) where
  pub was_refused : {f : Refusal} → r ≡ Err f → encode_outcome x ≡ refused_with f
  unfolding encode_outcome
  was_refused {f} e = go d
    where
      go : Encoding x out out' r → encode_outcome x ≡ refused_with f
      go (all bs k h q p) = let z : Ok k ≡ Err f = sym q ∙ e in cc z
      go (refuses g h q) = let z : Err g ≡ Err f = sym q ∙ e in let s : g ≡ f = cc z in rw (h, s) refl

  module _ (n : ℕ) (e : r ≡ Ok n) where
    written : Written x out out' n
    written = go d
      where
        go : Encoding x out out' r → Written x out out' n
        go (all bs k f q p) = let y : Ok k ≡ Ok n = sym q ∙ e in let z : k ≡ n = cc y in record { body = bs; is_body = f; wrote = rw z at p }
        go (refuses g f q) = let z : Err g ≡ Ok n = sym q ∙ e in cc z

    too_large : body_limit < n → encode_outcome x ≡ refused_with refusal.TooLarge
    unfolding encode_outcome measured
    too_large h = let w = written in rw (w.is_body, lt-ltb body_limit (length w.body) (omega (arith, w.wrote.next)))

    module _ (h : n ≤ body_limit) where
      length_is : length written.body ≡ n
      length_is = omega (arith, written.wrote.next)

      few : length written.body ≤ body_limit
      few = omega (arith, length_is)

      too_short : length out < n → (after : List ℕ) → after ≡ zeros out → Ended (encode_outcome x) out [] after (answer_report (Err Short))
      too_short l after z =
          let w = written in
          rw (w.is_body, encode_outcome_lem w.body few) (small_end (length w.body) w.body [] out [] (omega (arith, length_is)) after z)

      whole_body : n ≤ length out → Ended (encode_outcome x) out [] out' (answer_report (Ok n))
      unfolding exceeds
      whole_body l =
          let w = written in
          let q : 0 + length w.body ≡ length w.body = omega arith in
          let b = w.wrote.bytes ∙ (put_fits out 0 w.body (omega (arith, length_is)) ∙ ap (λ (k : ℕ). w.body ++ drop k out) q) in
          rw (w.is_body, encode_outcome_lem w.body few, length_is) (result_end n w.body [] out [] (omega (arith, length_is)) refl out' b)

    -- and measured: what is left is cleared once more where there is no result
    pub measured_end : (a : Result ℕ Failure) (after : List ℕ) → a ≡ measured_of n body_limit 0 0 (length out') → after ≡ left_by a out' → Ended (encode_outcome x) out [] (left_by a after) (answer_report a)
    measured_end a after f z =
        let l : length out' ≡ length out = kept_length written.wrote in
        by_leb n body_limit
        (λ h. by_leb n (length out')
        (λ g. let q = f ∙ is_fit n body_limit 0 0 (length out') h (omega arith) g in rw (q, rw q at z) (whole_body h (omega (arith, g, l))))
        (λ g. let q = f ∙ is_small n body_limit 0 0 (length out') h (omega arith) g in rw q (too_short h (omega (arith, g, l)) (zeros after) (cleared_again out' out after l (rw q at z)))))
        (λ h. let q = f ∙ is_large n body_limit 0 0 (length out') h in rw q (refused (too_large h) (cleared_again out' out after l (rw q at z))))

-- under a sheet that was read, and one that is malformed
module _ (text words : List ℕ) where
  pub encode_read : {r : Numbers} → sheet_answer (sheet_of text) ≡ Ok r → operation.encode text words ≡ encode_outcome (encode_records (types_in (sheet_of text)) r.largest words)
  unfolding operation.encode
  encode_read e = under_read (sheet_of text) _ e

  pub encode_none : {f : Refusal} → sheet_answer (sheet_of text) ≡ Err f → operation.encode text words ≡ refused_with f
  unfolding operation.encode
  encode_none e = under_none (sheet_of text) _ e
